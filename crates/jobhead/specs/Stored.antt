-- The job that a work buffer holds, and what storing its lines leaves.
-- Inner contracts: what functions ask of and leave to each other. No promise is stated in them; a reader need not believe them.
-- Assumes nothing.
use Rattle.std.specs.Prelude.{◌≡◌, List, ℕ, ◌+◌, ◌*◌, ◌≤◌, ◌<◌, get_or}
use Rattle.laws.specs.Bounded.{tab}
use Rattle.automaton.specs.Automaton.{automaton_of}
use Rattle.job.specs.Job.{Node, Job}
use Rattle.lines.specs.Line.{at}
use Rattle.buffer.specs.Layout.{node_place, starts_part, rule_part, marks_part}
use Rattle.buffer.specs.Views.{node_in, start_in, edges_from, cell_in, table_in}
use Rattle.buffer.specs.Kept.{SameOutside}
use Rattle.jobhead.specs.Numbers.{HeadNumbers}

-- the job of a buffer, with the numbers beside it
abbrev pub job_in : List ℕ → HeadNumbers → Job
job_in work h = record {
  rule = automaton_of (table_in work h.states h.symbols) h.states h.symbols h.finals;
  nodes = tab h.nodes (node_in work);
  edges = edges_from work 0 h.nodes;
}

-- ---- what a store asks and leaves

-- the numbers of a P line fit the bytes of a node
pub record NodeFits (ns : List ℕ) : Type 0 where
  pub kind : at ns 1 < 256
  pub value : at ns 2 < 65536
  pub entries : at ns 3 < 65536
  pub exits : at ns 4 < 256
  pub after : at ns 5 < 65536

-- node n is stored
pub record NodeStored (l m : List ℕ) (n : ℕ) (node : Node) : Type 0 where
  pub here : node_in m n ≡ node
  pub kept : SameOutside l m (node_place n) (node_place n + 8)

-- row q is stored: sixteen numbers from the third on
pub record RowStored (l m : List ℕ) (q : ℕ) (ns : List ℕ) : Type 0 where
  pub here : (c : ℕ) → c < 16 → cell_in m q c ≡ get_or ns (c + 2) 0
  pub kept : SameOutside l m (rule_part + q * 16) (rule_part + q * 16 + 16)

-- the rule's part is zero
pub record RuleCleared (l m : List ℕ) : Type 0 where
  pub here : (k : ℕ) → k < 256 → get_or m (rule_part + k) 0 ≡ 0
  pub kept : SameOutside l m rule_part marks_part

-- the starts from node a up to b are v
pub record StartsFilled (l m : List ℕ) (a b v : ℕ) : Type 0 where
  pub here : (j : ℕ) → a ≤ j → j < b → start_in m j ≡ v
  pub kept : SameOutside l m (starts_part + a * 2) (starts_part + b * 2)
