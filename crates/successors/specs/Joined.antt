-- What joining sixteen rows of pairs leaves, at one node and at the successors of a node.
-- Inner contracts: what functions ask of and leave to each other. No promise is stated in them; a reader need not believe them.
-- Assumes nothing.
use Rattle.std.specs.Prelude.{◌≡◌, ◌⊎◌, List, ℕ, ◌<◌}
use Rattle.buffer.specs.Views.{EdgeIn, Held}
use Rattle.tables.specs.Tables.{Grown}
use Rattle.tables.specs.Sixteen.{InRows}

-- sixteen rows were joined into those of node n
pub record RowsJoined (l m : List ℕ) (n : ℕ) (rows : List ℕ) : Type 0 where
  pub grown : Grown l m
  pub here : (p q : ℕ) → p < 16 → InRows rows p q → Held m n p q
  pub new : (k p q : ℕ) → k < 512 → p < 16 → Held m k p q → Held l k p q ⊎ ((k ≡ n) × InRows rows p q)

-- sixteen rows were joined at the ends of all edges of node n
pub record JoinedPast (l m : List ℕ) (n : ℕ) (rows : List ℕ) : Type 0 where
  pub grown : Grown l m
  pub here : (k p q : ℕ) → EdgeIn l n k → p < 16 → InRows rows p q → Held m k p q
  pub new : (k p q : ℕ) → k < 512 → p < 16 → Held m k p q → Held l k p q ⊎ (EdgeIn l n k × InRows rows p q)
