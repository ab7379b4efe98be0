-- A job in the work buffer as the searches read it.
-- Inner contracts: what functions ask of and leave to each other. No promise is stated in them; a reader need not believe them.
-- Assumes nothing.
use Rattle.std.specs.Prelude.{◌≡◌, ◌↔◌, true, List, ℕ, suc, ◌+◌, ◌≤◌, ◌<◌, length, get_or}
use Rattle.automaton.specs.Automaton.{next, cell}
use Rattle.job.specs.Job.{Job, node_at, leads, WellFormedJob}
use Rattle.job.specs.Words.{WordApart, NothingMore}
use Rattle.buffer.specs.Layout.{plan_part, Lent}
use Rattle.buffer.specs.Views.{node_in, start_in, target_in, EdgeIn, HeldApart}
use Rattle.tables.specs.Rows.{CellsBelow}

-- the edges of node n lie within their part, and end at nodes
pub record EdgesWithin (work : List ℕ) (n : ℕ) : Type 0 where
  pub first : start_in work n ≤ 2048
  pub last : start_in work (suc n) ≤ 2048
  pub targets : (i : ℕ) → start_in work n ≤ i → i < start_in work (suc n) → target_in work i < 512

-- what the searches need of buffer and table to stay within them
pub record Usable (work : List ℕ) (table : List (List ℕ)) (states nodes : ℕ) : Type 0 where
  pub long : Lent work
  pub few_states : states ≤ 16
  pub few_nodes : nodes ≤ 512
  pub cells : CellsBelow table
  pub edges : (n : ℕ) → n < nodes → EdgesWithin work n

-- the buffer holds the nodes and edges of the job, and the table, S and the final set are its rule
pub record JobHeld (j : Job) (work : List ℕ) (table : List (List ℕ)) (finals states nodes : ℕ) : Type 0 where
  pub formed : WellFormedJob j
  pub states_are : states ≡ j.rule.states
  pub finals_are : finals ≡ j.rule.finals
  pub nodes_are : nodes ≡ length j.nodes
  pub cells : (q a : ℕ) → q < 16 → a < 16 → cell table q a ≡ next j.rule q a
  pub node : (n : ℕ) → n < nodes → node_in work n ≡ node_at j n
  pub edges : (m n : ℕ) → m < nodes → (leads j m n ≡ true) ↔ EdgeIn work m n

-- the plan part holds the plan
abbrev pub PlanHeld : List ℕ → List ℕ → ℕ → Type 0
PlanHeld plan work nodes = (n : ℕ) → n < nodes → get_or work (plan_part + n) 0 ≡ get_or plan n 0

-- the class rows hold, at exits, the states that some word over the after set tells apart, and nothing else
pub record AfterHeld (j : Job) (work : List ℕ) (nodes : ℕ) : Type 0 where
  pub sound
      : (n p q : ℕ) → n < nodes → p < 16 → HeldApart work n p q
      → ((node_at j n).exit ≡ true) × WordApart j.rule (node_at j n).after NothingMore p q
  pub whole
      : (n p q : ℕ) → n < nodes → p < j.rule.states → q < j.rule.states → (node_at j n).exit ≡ true
      → WordApart j.rule (node_at j n).after NothingMore p q → HeldApart work n p q
