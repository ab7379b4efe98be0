-- A relation on states by value: sixteen rows, a set of states for each state.
-- Inner contracts: what functions ask of and leave to each other. No promise is stated in them; a reader need not believe them.
-- Assumes nothing.
use Rattle.std.specs.Prelude.{◌≡◌, ◌⊎◌, true, List, ℕ, ◌+◌, ◌-◌, ◌≤◌, ◌<◌, length, get_or}
use Rattle.laws.specs.Bounded.{sum_below}
use Rattle.laws.specs.Bits.{has}

-- the pair is in sixteen rows
abbrev pub InRows : List ℕ → ℕ → ℕ → Type 0
InRows rows p q = has (get_or rows p 0) q ≡ true

-- there are sixteen, each of two bytes
pub record Sixteen (rows : List ℕ) : Type 0 where
  pub long : length rows ≡ 16
  pub small : (p : ℕ) → get_or rows p 0 < 65536

-- what is left to rows that grow
unfoldable pub rows_left : List ℕ → ℕ
rows_left rows = sum_below 16 (λ p. 65535 - get_or rows p 0)

-- a set was joined into row p; the count is 1 where the row grew
pub record RowJoined (l m : List ℕ) (p s count : ℕ) : Type 0 where
  pub sixteen : Sixteen m
  pub held : (r q : ℕ) → r < 16 → InRows l r q → InRows m r q
  pub here : (q : ℕ) → has s q ≡ true → InRows m p q
  pub new : (r q : ℕ) → r < 16 → InRows m r q → InRows l r q ⊎ ((r ≡ p) × (has s q ≡ true))
  pub none : count ≡ 0 → m ≡ l
  pub left : rows_left m + count ≤ rows_left l
