-- What joining sixteen rows at some nodes leaves, and the rows of the calls that may come back in.
-- Inner contracts: what functions ask of and leave to each other. No promise is stated in them; a reader need not believe them.
-- Assumes nothing.
use Rattle.std.specs.Prelude.{◌≡◌, ◌⊎◌, ◌↔◌, Bool, true, List, ℕ, ◌<◌}
use Rattle.job.specs.Job.{is_reentrant}
use Rattle.buffer.specs.Views.{node_in, Held}
use Rattle.tables.specs.Tables.{Grown}
use Rattle.tables.specs.Sixteen.{InRows}
use Rattle.relation.specs.Union.{Below}

-- sixteen rows were joined into those of node n, if it passes
pub record JoinedIf (passes : Bool) (l m : List ℕ) (n : ℕ) (rows : List ℕ) : Type 0 where
  pub grown : Grown l m
  pub here : passes ≡ true → (p q : ℕ) → p < 16 → InRows rows p q → Held m n p q
  pub new : (k p q : ℕ) → k < 512 → p < 16 → Held m k p q → Held l k p q ⊎ ((k ≡ n) × (passes ≡ true) × InRows rows p q)

-- sixteen rows were joined at all nodes that pass a test
pub record JoinedWhere (test : ℕ → Bool) (l m : List ℕ) (nodes : ℕ) (rows : List ℕ) : Type 0 where
  pub grown : Grown l m
  pub here : (n p q : ℕ) → n < nodes → test n ≡ true → p < 16 → InRows rows p q → Held m n p q
  pub new
      : (k p q : ℕ) → k < 512 → p < 16 → Held m k p q → Held l k p q ⊎ ((k < nodes) × (test k ≡ true) × InRows rows p q)

-- node n is a call that may come back in, and holds the pair
abbrev pub EnteringAt : List ℕ → ℕ → ℕ → ℕ → Type 0
EnteringAt work n p q = (is_reentrant (node_in work n).kind ≡ true) × Held work n p q

-- the rows are those of all such calls
abbrev pub EnteringRows : List ℕ → ℕ → List ℕ → Type 0
EnteringRows work nodes rows = (p q : ℕ) → p < 16 → InRows rows p q ↔ Below (EnteringAt work) nodes p q
