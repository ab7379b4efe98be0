-- The pairs past a node, and those that the words after an exit lead to.
-- Inner contracts: what functions ask of and leave to each other. No promise is stated in them; a reader need not believe them.
-- Assumes nothing.
use Rattle.std.specs.Prelude.{◌≡◌, ◌↔◌, true, List, ℕ, ◌<◌}
use Rattle.job.specs.Job.{Job, node_at}
use Rattle.job.specs.Plan.{Enabling, full, enables}
use Rattle.job.specs.Words.{Spelt}
use Rattle.buffer.specs.Views.{Held}
use Rattle.tables.specs.Held.{JobHeld, PlanHeld}
use Rattle.tables.specs.Sixteen.{InRows, Sixteen}
use Rattle.look.specs.Looking.{past_node}
use Rattle.relation.specs.Union.{Union, Below}

-- a pair past node n that comes from one of its row p
pub record PastRow (j : Job) (w : Enabling) (work : List ℕ) (n p r s : ℕ) : Type 0 where
  pub other : ℕ
  pub from : Held work n p other
  pub one_is : r ≡ past_node j full n p
  pub other_is : s ≡ past_node j w n other

-- a pair past node n that comes from one that it holds
abbrev pub PastHeld : Job → Enabling → List ℕ → ℕ → ℕ → ℕ → Type 0
PastHeld j w work n r s = Below (PastRow j w work n) 16 r s

-- node n is an exit, and a word after it leads to the pair
pub record EndedAt (j : Job) (w : Enabling) (work : List ℕ) (n r s : ℕ) : Type 0 where
  pub exit : (node_at j n).exit ≡ true
  pub word : Spelt j.rule (node_at j n).after (PastHeld j w work n) r s

-- row p of node n, which is s, was joined past the node
pub record PastJoined (table : List (List ℕ)) (finals : ℕ) (work l m : List ℕ) (n p s : ℕ) : Type 0 where
  pub sixteen : Sixteen m
  pub none : s ≡ 0 → (q : ℕ) → Held work n p q → ⊥
  pub exact
      : (j : Job) (plan : List ℕ) (states nodes : ℕ) → JobHeld j work table finals states nodes → PlanHeld plan work nodes → n < nodes
      → Union (PastRow j (enables plan) work n p) l m

-- all rows of node n were joined past the node; `any` is 0 where none has a pair
pub record PastGathered (table : List (List ℕ)) (finals : ℕ) (work l m : List ℕ) (n any : ℕ) : Type 0 where
  pub sixteen : Sixteen m
  pub none : any ≡ 0 → (p q : ℕ) → p < 16 → Held work n p q → ⊥
  pub exact
      : (j : Job) (plan : List ℕ) (states nodes : ℕ) → JobHeld j work table finals states nodes → PlanHeld plan work nodes → n < nodes
      → Union (PastHeld j (enables plan) work n) l m

-- what the words after node n lead to was joined
pub record EndedJoined (table : List (List ℕ)) (finals : ℕ) (work l m : List ℕ) (n : ℕ) : Type 0 where
  pub sixteen : Sixteen m
  pub exact
      : (j : Job) (plan : List ℕ) (states nodes : ℕ) → JobHeld j work table finals states nodes → PlanHeld plan work nodes → n < nodes
      → Union (EndedAt j (enables plan) work n) l m

-- the rows are what the words after all exits lead to, for every job and plan that the buffer holds
abbrev pub ExitRows : List (List ℕ) → ℕ → ℕ → List ℕ → List ℕ → Type 0
ExitRows table finals nodes work rows =
    (j : Job) (plan : List ℕ) (states : ℕ) → JobHeld j work table finals states nodes → PlanHeld plan work nodes
    → (p q : ℕ) → p < 16 → InRows rows p q ↔ Below (EndedAt j (enables plan) work) nodes p q
