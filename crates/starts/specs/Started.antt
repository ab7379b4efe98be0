-- What the starts of a search leave: the admitted states of each node, each with itself.
-- Inner contracts: what functions ask of and leave to each other. No promise is stated in them; a reader need not believe them.
-- Assumes nothing.
use Rattle.std.specs.Prelude.{◌≡◌, ◌⊎◌, true, false, List, ℕ, ◌<◌}
use Rattle.laws.specs.Bits.{has}
use Rattle.buffer.specs.Views.{node_in, pair_row_in, marked_in, Held}
use Rattle.tables.specs.Tables.{SearchKept, Grown}

-- the admitted states of node n were joined, each with itself
pub record StartedNode (l m : List ℕ) (n : ℕ) : Type 0 where
  pub grown : Grown l m
  pub here : (q : ℕ) → has (node_in l n).entry q ≡ true → Held m n q q
  pub new : (k p q : ℕ) → k < 512 → p < 16 → Held m k p q → Held l k p q ⊎ ((k ≡ n) × ((p ≡ q) × (has (node_in l n).entry q ≡ true)))

-- the rows of pairs hold the admitted states of all nodes, each with itself, and nothing else; a row with pairs is marked
pub record Started (l m : List ℕ) (nodes : ℕ) : Type 0 where
  pub kept : SearchKept l m
  pub here : (n q : ℕ) → n < nodes → has (node_in l n).entry q ≡ true → Held m n q q
  pub only : (n p q : ℕ) → n < 512 → p < 16 → Held m n p q → (n < nodes) × ((p ≡ q) × (has (node_in l n).entry q ≡ true))
  pub quiet : (n p : ℕ) → n < 512 → p < 16 → marked_in m n p ≡ false → pair_row_in m n p ≡ 0
