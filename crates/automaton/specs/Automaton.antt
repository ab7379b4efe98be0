-- The rule (document 01, "The rule and the monitor"; refusal 13).
-- Assumes nothing.
use Rattle.std.specs.Prelude.{◌≡◌, ◌↔◌, Bool, true, ◌&&◌, List, [], ℕ, ◌^◌, ◌<◌, ◌≤◌, ltb, leb, get_or}
use Rattle.laws.specs.Bounded.{all_below}
use Rattle.laws.specs.Bits.{has}

-- "rule": S states, A symbols, the set of final states, and sixteen rows of sixteen next states
pub record Automaton : Type 0 where
  pub states : ℕ
  pub symbols : ℕ
  pub finals : ℕ
  pub table : List (List ℕ)

-- the rule as it is passed: the table, S, A and the final set
abbrev pub automaton_of : List (List ℕ) → ℕ → ℕ → ℕ → Automaton
automaton_of t s a f = record { states = s; symbols = a; finals = f; table = t }

-- a cell of a table: row q, column a
unfoldable pub cell : List (List ℕ) → ℕ → ℕ → ℕ
cell t q a = get_or (get_or t q []) a 0

-- "one next state for every state and symbol"
abbrev pub next : Automaton → ℕ → ℕ → ℕ
next m q a = cell m.table q a

-- "a set of final states": bit q stands for state q
abbrev pub final : Automaton → ℕ → Bool
final m q = has m.finals q

-- a number of states or symbols, 1 to 16
abbrev pub within_limits : ℕ → Bool
within_limits n = leb 1 n && leb n 16

-- a next state of less than s
abbrev pub cell_below : List (List ℕ) → ℕ → ℕ → ℕ → Bool
cell_below t s q a = ltb (cell t q a) s

-- every next state in the part of s rows and a columns is below s
unfoldable pub cells_below : List (List ℕ) → ℕ → ℕ → Bool
cells_below t s a = all_below s (λ q. all_below a (cell_below t s q))

-- S and A within their limits, and no final state of S or more: a set below 2 ^ S has no member of S or more
abbrev pub numbers_fit : ℕ → ℕ → ℕ → Bool
numbers_fit s a f = within_limits s && within_limits a && ltb f (2 ^ s)

-- the same in words: `numbers_fit s a f ≡ true` if and only if `NumbersFit s a f`
pub record NumbersFit (s a f : ℕ) : Type 0 where
  pub some_state : 1 ≤ s
  pub few_states : s ≤ 16
  pub some_symbol : 1 ≤ a
  pub few_symbols : a ≤ 16
  pub finals_below : (q : ℕ) → has f q ≡ true → q < s

-- the statement of that
abbrev pub NumbersFitSays : Type 0
NumbersFitSays = (s a f : ℕ) → (numbers_fit s a f ≡ true) ↔ NumbersFit s a f

-- a rule that refusal 13 does not turn back, as a test
unfoldable pub well_formed : Automaton → Bool
well_formed m = numbers_fit m.states m.symbols m.finals && cells_below m.table m.states m.symbols

-- the same in words: `well_formed m ≡ true` if and only if `WellFormed m`
pub record WellFormed (m : Automaton) : Type 0 where
  pub some_state : 1 ≤ m.states
  pub few_states : m.states ≤ 16
  pub some_symbol : 1 ≤ m.symbols
  pub few_symbols : m.symbols ≤ 16
  pub next_below : (q a : ℕ) → q < m.states → a < m.symbols → next m q a < m.states
  pub finals_below : (q : ℕ) → final m q ≡ true → q < m.states

-- the statement of that
abbrev pub WellFormedSays : Type 0
WellFormedSays = (m : Automaton) → (well_formed m ≡ true) ↔ WellFormed m

-- "cells past S or A have no meaning": two rules that differ in no more than those
pub record SameRule (m n : Automaton) : Type 0 where
  pub states : m.states ≡ n.states
  pub symbols : m.symbols ≡ n.symbols
  pub finals : m.finals ≡ n.finals
  pub cells : (q a : ℕ) → q < m.states → a < m.symbols → next m q a ≡ next n q a

-- the statement: the test of a rule looks at no such cell
abbrev pub TestsNoOtherCell : Type 0
TestsNoOtherCell = (m n : Automaton) → SameRule m n → well_formed m ≡ well_formed n
