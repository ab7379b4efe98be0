-- Texts of rule rows with the number and the bytes of each call, worked out by hand: PAIR's rule of document 01, one row for all, 256 rows of one
-- cell, and the refusals in their order. That they are answered so, `AllMade rows_trials`, is a theorem of `proofs/`.
-- Assumes nothing.
use Rattle.std.specs.Prelude.{◌≡◌, List, [], ◌∷◌, ◌++◌, ℕ, ◌+◌, ◌-◌, ◌*◌, ◌/◌, ◌%◌, length, replicate}
use Prim.Native.String.{String}
use Rattle.laws.specs.Bounded.{tab}
use Rattle.automaton.specs.Made.{Made, made_after, made_table}
use Rattle.lines.specs.FieldTrials.{bytes_in}
use Rattle.jobfile.specs.FileTrials.{lines_in}
use Rattle.rulerows.specs.declared.rows.Row.{Row}
use Rattle.rulerows.specs.RuleRows.{span_of, rows_made, rows_answer, rows_number}
use Rattle.rulerows.specs.RowsAlike.{write_rows}

-- a text, S, A, the final set, the length of the rule buffer; the number that is returned, what the buffer holds after it, given what it held,
-- and the table by value
pub record RowsTrial : Type 0 where
  pub text : List ℕ
  pub states : ℕ
  pub symbols : ℕ
  pub finals : ℕ
  pub rule : ℕ
  pub number : ℕ
  pub left : List ℕ → List ℕ
  pub beside : List ℕ

-- a row of the table: a rule that is made; 281474976710656 is 2^48
abbrev pub gives : List ℕ → ℕ → ℕ → ℕ → List ℕ → RowsTrial
gives text s a f l =
    record {
      text = text;
      states = s;
      symbols = a;
      finals = f;
      rule = 256;
      number = 281474976710656;
      left = λ before. l;
      beside = l;
    }

-- a refusal, with the length of the rule buffer
abbrev pub refuses_with : ℕ → List ℕ → ℕ → ℕ → ℕ → ℕ → RowsTrial
refuses_with rule text s a f number =
    record {
      text = text;
      states = s;
      symbols = a;
      finals = f;
      rule = rule;
      number = number;
      left = λ before. before;
      beside = replicate 256 0;
    }

-- with one of 256 bytes
abbrev pub refuses_rows : List ℕ → ℕ → ℕ → ℕ → ℕ → RowsTrial
refuses_rows = refuses_with 256

-- the number, the rule buffer, whatever it held, and the table by value
pub record MadeSo (t : RowsTrial) (x : Made) (rule : List ℕ) : Type 0 where
  pub number : rows_number (rows_answer x) ≡ t.number
  pub left : made_after x rule ≡ t.left rule
  pub beside : made_table x ≡ t.beside

-- so for all rule buffers of this length
abbrev pub MakesSo : RowsTrial → Type 0
MakesSo t =
    (rule : List ℕ) → length rule ≡ t.rule → MadeSo t (rows_made t.text t.states t.symbols t.finals (length rule)) rule

infixr 5 ◌and◌
-- every call of a table is answered as it should be
pub data AllMade : List RowsTrial → Type 0 where
  done : AllMade []
  ◌and◌ : {t : RowsTrial} {ts : List RowsTrial} → MakesSo t → AllMade ts → AllMade (t ∷ ts)

-- ---- texts and bytes

-- PAIR's rule: a seal leads to 1 and a reopen to 0 from every state, a write from 0 to 0 and from 1 and 2 to 2
abbrev pub pair_rows : List String
pair_rows =
    "Q     0     2     0     0     1"
    ∷ "Q     0     2     1     1     0"
    ∷ "Q     0     0     2     2     0"
    ∷ "Q     1     2     2     2     2"
    ∷ []

abbrev pub pair_bytes : List ℕ
pair_bytes =
    (1 ∷ 0 ∷ 0 ∷ replicate 13 0) ++ (1 ∷ 0 ∷ 2 ∷ replicate 13 0) ++ (1 ∷ 0 ∷ 2 ∷ replicate 13 0) ++ replicate 208 0

-- the first three of its rows, and then these
abbrev pub pair_then : List String → List ℕ
pair_then more =
    lines_in
    ("Q     0     2     0     0     1" ∷ "Q     0     2     1     1     0" ∷ "Q     0     0     2     2     0" ∷ more)

-- one row for all, of so many states and symbols
abbrev pub whole : ℕ → ℕ → ℕ → List Row
whole s a next = record { states = span_of 0 (s - 1); symbols = span_of 0 (a - 1); next = next } ∷ []

-- 256 rows of one cell, from the last to the first; state q goes on symbol c to (3 * q + c) % 16, here by the place of the row
abbrev pub cell_row : ℕ → Row
cell_row i =
    record {
      states = span_of ((255 - i) / 16) ((255 - i) / 16);
      symbols = span_of ((255 - i) % 16) ((255 - i) % 16);
      next = ((255 - i) / 16 * 3 + (255 - i) % 16) % 16;
    }

abbrev pub cell_rows : List Row
cell_rows = tab 256 cell_row

abbrev pub cell_bytes : List ℕ
cell_bytes = tab 256 (λ i. (i / 16 * 3 + i % 16) % 16)

-- ---- the table

unfoldable pub rows_trials : List RowsTrial
unfolding lines_in bytes_in write_rows tab
rows_trials =
    -- PAIR: in four rows; with zeros before the digits; from the last row to the first; in nine rows of one cell
    gives (lines_in pair_rows) 3 3 4 pair_bytes
    ∷ gives
    (lines_in
    ("Q000000000002000000000000000001"
    ∷ "Q     0  0002    01     1 00000"
    ∷ "Q000000     0     2000002     0"
    ∷ "Q     1     2     2     2000002"
    ∷ []))
    3 3 4 pair_bytes
    ∷ gives
    (lines_in
    ("Q     1     2     2     2     2"
    ∷ "Q     0     0     2     2     0"
    ∷ "Q     0     2     1     1     0"
    ∷ "Q     0     2     0     0     1"
    ∷ []))
    3 3 4 pair_bytes
    ∷ gives
    (lines_in
    ("Q     0     0     0     0     1"
    ∷ "Q     1     1     0     0     1"
    ∷ "Q     2     2     0     0     1"
    ∷ "Q     0     0     1     1     0"
    ∷ "Q     1     1     1     1     0"
    ∷ "Q     2     2     1     1     0"
    ∷ "Q     0     0     2     2     0"
    ∷ "Q     1     1     2     2     2"
    ∷ "Q     2     2     2     2     2"
    ∷ []))
    3 3 4 pair_bytes
    -- no state final, all final
    ∷ gives (lines_in pair_rows) 3 3 0 pair_bytes
    ∷ gives (lines_in pair_rows) 3 3 7 pair_bytes
    -- one row for all: sixteen states and symbols, all final; two states and five symbols; one of both
    ∷ gives (write_rows (whole 16 16 7)) 16 16 65535 (replicate 256 7)
    ∷ gives (lines_in ("Q     0     1     0     4     1" ∷ [])) 2 5 2 (replicate 5 1 ++ replicate 11 0 ++ (replicate 5 1 ++ replicate 235 0))
    ∷ gives (lines_in ("Q     0     0     0     0     0" ∷ [])) 1 1 1 (replicate 256 0)
    -- 256 rows of one cell
    ∷ gives (write_rows cell_rows) 16 16 1 cell_bytes
    -- 13: no byte, one too few, one too many, a whole rule more; before 17, 18 and 19
    ∷ refuses_with 0 (lines_in pair_rows) 3 3 4 13
    ∷ refuses_with 255 (lines_in pair_rows) 3 3 4 13
    ∷ refuses_with 257 (lines_in pair_rows) 3 3 4 13
    ∷ refuses_with 512 (lines_in pair_rows) 3 3 4 13
    ∷ refuses_with 255 (lines_in pair_rows) 17 3 4 13
    ∷ refuses_with 257 (lines_in ("Q     0     0     0     0     0" ∷ "Q     0     0     0     0     0" ∷ [])) 1 1 0 13
    ∷ refuses_with 255 [] 1 1 0 13
    -- 17: S and A
    ∷ refuses_rows (lines_in pair_rows) 0 3 0 17
    ∷ refuses_rows (lines_in pair_rows) 17 3 4 17
    ∷ refuses_rows (lines_in pair_rows) 259 3 4 17
    ∷ refuses_rows (lines_in pair_rows) 65539 3 4 17
    ∷ refuses_rows (lines_in pair_rows) 3 0 4 17
    ∷ refuses_rows (lines_in pair_rows) 3 17 4 17
    ∷ refuses_rows (lines_in pair_rows) 3 259 4 17
    ∷ refuses_rows (lines_in pair_rows) 3 65539 4 17
    -- 17: a final state of S, of 8, of 16, of 63
    ∷ refuses_rows (lines_in pair_rows) 3 3 12 17
    ∷ refuses_rows (lines_in pair_rows) 3 3 260 17
    ∷ refuses_rows (lines_in pair_rows) 3 3 65540 17
    ∷ refuses_rows (lines_in pair_rows) 3 3 9223372036854775812 17
    -- 17: a byte more than 256 rows have, and 257 rows, of which each two name one pair
    ∷ refuses_rows (replicate 8193 81) 1 1 0 17
    ∷ refuses_rows (write_rows (tab 257 (λ i. record { states = span_of 0 0; symbols = span_of 0 0; next = 0 }))) 1 1 0 17
    -- 17: a byte past the last row, the last end byte missing, another letter, another end byte, a space after the digits, no digit, a sign
    ∷ refuses_rows (lines_in pair_rows ++ (10 ∷ [])) 3 3 4 17
    ∷ refuses_rows (pair_then [] ++ bytes_in "Q     1     2     2     2     2") 3 3 4 17
    ∷ refuses_rows (pair_then ("R     1     2     2     2     2" ∷ [])) 3 3 4 17
    ∷ refuses_rows (pair_then [] ++ (bytes_in "Q     1     2     2     2     2" ++ (13 ∷ []))) 3 3 4 17
    ∷ refuses_rows (pair_then ("Q     1    2      2     2     2" ∷ [])) 3 3 4 17
    ∷ refuses_rows (pair_then ("Q     1     2           2     2" ∷ [])) 3 3 4 17
    ∷ refuses_rows (pair_then ("Q     1     2     2     2    -2" ∷ [])) 3 3 4 17
    ∷ refuses_rows (10 ∷ []) 1 1 0 17
    -- 17: a last state of S, also by 256 and by 65,536 more; a last symbol of A; a next state of S; firsts past them
    ∷ refuses_rows (pair_then ("Q     1     3     2     2     2" ∷ [])) 3 3 4 17
    ∷ refuses_rows (pair_then ("Q     1   258     2     2     2" ∷ [])) 3 3 4 17
    ∷ refuses_rows (pair_then ("Q     1 65538     2     2     2" ∷ [])) 3 3 4 17
    ∷ refuses_rows (pair_then ("Q     1     2     2     3     2" ∷ [])) 3 3 4 17
    ∷ refuses_rows (pair_then ("Q     1     2     2     2     3" ∷ [])) 3 3 4 17
    ∷ refuses_rows (pair_then ("Q     3     3     2     2     2" ∷ [])) 3 3 4 17
    ∷ refuses_rows (pair_then ("Q     1     2     3     3     2" ∷ [])) 3 3 4 17
    -- 17: a first above its last, by the states and by the symbols, also where no other row is wanted
    ∷ refuses_rows (pair_then ("Q     2     1     2     2     2" ∷ [])) 3 3 4 17
    ∷ refuses_rows (pair_then ("Q     1     2     2     1     2" ∷ [])) 3 3 4 17
    ∷ refuses_rows (lines_in pair_rows ++ lines_in ("Q     1     0     0     0     0" ∷ [])) 3 3 4 17
    -- 17 of the last row before 18 of the first two, and before 19
    ∷ refuses_rows
    (lines_in ("Q     0     0     0     0     0" ∷ "Q     0     0     0     0     0" ∷ "Q     0     0     0     0     1" ∷ []))
    1 1 0 17
    ∷ refuses_rows (lines_in ("Q     0     0     0     0     2" ∷ [])) 2 2 0 17
    -- 18: two rows that meet in one cell, that agree, the same row twice; before 19
    ∷ refuses_rows (pair_then ("Q     0     2     2     2     2" ∷ [])) 3 3 4 18
    ∷ refuses_rows (pair_then ("Q     1     2     2     2     2" ∷ "Q     2     2     2     2     2" ∷ [])) 3 3 4 18
    ∷ refuses_rows (lines_in pair_rows ++ lines_in pair_rows) 3 3 4 18
    ∷ refuses_rows (lines_in ("Q     0     1     0     0     0" ∷ "Q     1     2     0     0     0" ∷ [])) 3 3 4 18
    -- 19: a hole, the last state's and the last symbol's; no row at all
    ∷ refuses_rows (pair_then ("Q     1     1     2     2     2" ∷ [])) 3 3 4 19
    ∷ refuses_rows (pair_then []) 3 3 4 19
    ∷ refuses_rows (lines_in ("Q     0     2     0     1     1" ∷ [])) 3 3 4 19
    ∷ refuses_rows (lines_in pair_rows) 4 3 4 19
    ∷ refuses_rows (lines_in pair_rows) 3 4 4 19
    ∷ refuses_rows [] 1 1 0 19
    ∷ []
