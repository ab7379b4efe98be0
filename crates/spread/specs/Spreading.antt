-- What moving a row by each symbol of a call set leaves.
-- Inner contracts: what functions ask of and leave to each other. No promise is stated in them; a reader need not believe them.
-- Assumes nothing.
use Rattle.std.specs.Prelude.{◌≡◌, ◌⊎◌, Bool, true, false, not, List, ℕ, ◌<◌}
use Rattle.laws.specs.Bits.{has}
use Rattle.automaton.specs.Automaton.{cell}
use Rattle.buffer.specs.Views.{Held}
use Rattle.tables.specs.Tables.{Grown}

-- a symbol of the set and a state of the row: the pair that they lead to, at node n
pub record WordFrom (table : List (List ℕ)) (set p s : ℕ) (k l : ℕ) : Type 0 where
  pub symbol : ℕ
  pub state : ℕ
  pub small : symbol < 16
  pub of_set : has set symbol ≡ true
  pub of_row : has s state ≡ true
  pub one : k ≡ cell table p symbol
  pub other : l ≡ cell table state symbol

-- a row was moved by each symbol of a call set and joined at its own node, until a symbol alarms differently
pub record Spread (table : List (List ℕ)) (finals : ℕ) (l m : List ℕ) (n p s set : ℕ) (differs : Bool) : Type 0 where
  pub grown : Grown l m
  pub here : differs ≡ false → (a q : ℕ) → a < 16 → has set a ≡ true → has s q ≡ true → Held m n (cell table p a) (cell table q a)
  pub alike
      : differs ≡ false → (a q : ℕ) → a < 16 → has set a ≡ true → has s q ≡ true
      → has finals (cell table p a) ≡ has finals (cell table q a)
  pub split
      : differs ≡ true
      → (a : ℕ) × (q : ℕ) × (a < 16) × (has set a ≡ true) × (has s q ≡ true)
      × (has finals (cell table p a) ≡ not (has finals (cell table q a)))
  pub new : (k r q : ℕ) → k < 512 → r < 16 → Held m k r q → Held l k r q ⊎ ((k ≡ n) × WordFrom table set p s r q)
