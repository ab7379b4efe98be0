-- The table as bytes (document 01, "The job file": the rule's rows are 256 bytes in row order; document 02, request 4: cells past S or A zero).
-- Assumes nothing.
use Rattle.std.specs.Prelude.{◌≡◌, cond, ◌&&◌, List, ℕ, ◌+◌, ◌*◌, ◌/◌, ◌%◌, ◌≤◌, ◌<◌, ltb, length, get_or}
use Rattle.laws.specs.Bounded.{tab}
use Rattle.automaton.specs.Automaton.{Automaton, next}

-- "the rule's rows are 256 bytes"
abbrev pub rule_size : ℕ
rule_size = 256

-- the row of sixteen next states from a place of the bytes on
unfoldable pub row_of : List ℕ → ℕ → List ℕ
row_of bytes start = tab 16 (λ a. get_or bytes (start + a) 0)

-- sixteen rows, one after the other
unfoldable pub table_of : List ℕ → List (List ℕ)
unfolding row_of
table_of bytes = tab 16 (λ q. row_of bytes (q * 16))

-- the byte of row q and column a of a rule: the next state, and zero past S or A
unfoldable pub cell_byte : Automaton → ℕ → ℕ → ℕ
cell_byte m q a = cond (ltb q m.states && ltb a m.symbols) (next m q a) 0

-- the bytes of a rule: sixteen rows of sixteen, "with cells past S or A zero"
unfoldable pub rule_bytes : Automaton → List ℕ
unfolding cell_byte
rule_bytes m = tab 256 (λ i. cell_byte m (i / 16) (i % 16))

-- the same in words: 256 bytes in row order, a next state for each state and symbol, and zero past S or A
pub record RuleWritten (m : Automaton) (bytes : List ℕ) : Type 0 where
  pub count : length bytes ≡ rule_size
  pub cells : (q a : ℕ) → q < m.states → a < m.symbols → get_or bytes (q * 16 + a) 0 ≡ next m q a
  pub past_states : (q a : ℕ) → m.states ≤ q → q < 16 → a < 16 → get_or bytes (q * 16 + a) 0 ≡ 0
  pub past_symbols : (q a : ℕ) → q < 16 → m.symbols ≤ a → a < 16 → get_or bytes (q * 16 + a) 0 ≡ 0
