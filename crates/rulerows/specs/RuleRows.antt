-- Rule rows that offices can edit (document 02, request 4): the rows of a text, the rule that they make, and the call's answer.
-- Assumes nothing.
use Rattle.std.specs.Prelude.{Result, Ok, Err, Bool, cond, ◌&&◌, List, [], ◌∷◌, map, ℕ, ◌+◌, ◌*◌, ◌/◌, eqb, leb, ltb, length}
use Rattle.laws.specs.Bounded.{any_below, tab}
use Rattle.callnumber.specs.CallNumber.{accepted_from}
use Rattle.automaton.specs.Automaton.{Automaton, automaton_of, numbers_fit}
use Rattle.automaton.specs.Table.{rule_size}
use Rattle.automaton.specs.Made.{Made, makes, refuses, made_table}
use Rattle.lines.specs.Line.{at, line_length}
use Rattle.lines.specs.Lines.{LineKind, Lines, lines, refused, lines_of}
use Rattle.rulerows.specs.declared.rows.Span.{Span}
use Rattle.rulerows.specs.declared.rows.Row.{Row}
use Rattle.rulevalue.specs.declared.WithTable.{WithTable}

-- ---- the rows of a text

-- the numbers from a first to a last
abbrev pub span_of : ℕ → ℕ → Span
span_of first last = record { first = first; last = last }

-- "first state, last state, first symbol, last symbol, next state"
abbrev pub row_of : List ℕ → Row
row_of ns = record { states = span_of (at ns 0) (at ns 1); symbols = span_of (at ns 2) (at ns 3); next = at ns 4 }

-- 17: "a number is outside its limits or a first exceeds a last"
abbrev pub good_row : ℕ → ℕ → ℕ → List ℕ → List ℕ → Bool
good_row s a i before ns =
    leb (at ns 0) (at ns 1) && ltb (at ns 1) s && leb (at ns 2) (at ns 3) && ltb (at ns 3) a && ltb (at ns 4) s

-- "one letter Q and five six-column fields" (Q is 81); what a line is refused with is not told, since 17 is of the whole text
abbrev pub row_line : ℕ → ℕ → LineKind
row_line s a = record { letter = 81; count = 5; refusal = 17; good = good_row s a }

-- the rows of a text, or it is not rows alone
pub data Rows : Type 0 where
  rows : List Row → Rows
  not_rows : Rows

-- every row passes, and nothing follows them
abbrev pub rows_read : Lines → Rows
rows_read (lines ls []) = rows (map row_of ls)
rows_read (lines ls (b ∷ rest)) = not_rows
rows_read (refused k) = not_rows

-- as many rows as the text has room for
abbrev pub rows_due : List ℕ → ℕ
rows_due text = length text / line_length 5

-- the rows of a text, for S states and A symbols
unfoldable pub rows_in : ℕ → ℕ → List ℕ → Rows
unfolding lines_of
rows_in s a text = rows_read (lines_of (row_line s a) (rows_due text) 0 [] text)

-- ---- the rule of the rows

-- a number from the first to the last
abbrev pub in_span : Span → ℕ → Bool
in_span x n = leb x.first n && leb n x.last

-- a row names the pair of a state and a symbol
unfoldable pub names : Row → ℕ → ℕ → Bool
names r q c = in_span r.states q && in_span r.symbols c

-- how many rows name a pair
unfoldable pub named_by : List Row → ℕ → ℕ → ℕ
unfolding names
named_by [] q c = 0
named_by (r ∷ rs) q c = cond (names r q c) 1 0 + named_by rs q c

-- the next state in the first row that names a pair
unfoldable pub next_in : List Row → ℕ → ℕ → ℕ
unfolding names
next_in [] q c = 0
next_in (r ∷ rs) q c = cond (names r q c) r.next (next_in rs q c)

-- 18: "two rows name one pair"
unfoldable pub twice : ℕ → ℕ → List Row → Bool
unfolding any_below named_by
twice s a rs = any_below s (λ q. any_below a (λ c. leb 2 (named_by rs q c)))

-- 19: "a pair has no row"
unfoldable pub missing : ℕ → ℕ → List Row → Bool
unfolding any_below named_by
missing s a rs = any_below s (λ q. any_below a (λ c. eqb (named_by rs q c) 0))

-- "every cell holds the next state of its one row"
unfoldable pub automaton_of_rows : ℕ → ℕ → ℕ → List Row → Automaton
unfolding tab next_in
automaton_of_rows s a f rs = automaton_of (tab s (λ q. tab a (λ c. next_in rs q c))) s a f

-- ---- the answer

-- "at most 256 rows": the bytes of so many
abbrev pub max_text : ℕ
max_text = 256 * line_length 5

-- 17 for a text that is not rows alone; "then 18 when two rows name one pair, then 19 when a pair has no row"
abbrev pub made_of_rows : ℕ → ℕ → ℕ → Rows → Made
made_of_rows s a f (rows rs) = cond (twice s a rs) (refuses 18) (cond (missing s a rs) (refuses 19) (makes (automaton_of_rows s a f rs)))
made_of_rows s a f not_rows = refuses 17

-- the rule of a text; 17 for more bytes than 256 rows have, before a row is looked at, and for S, A or the final set
unfoldable pub rule_from : List ℕ → ℕ → ℕ → ℕ → Made
unfolding rows_in twice missing
rule_from text s a f = cond (leb (length text) max_text && numbers_fit s a f) (made_of_rows s a f (rows_in s a text)) (refuses 17)

-- for a rule buffer of this length: "any other length is refused as 13 for the rule", before all else
abbrev pub rows_made : List ℕ → ℕ → ℕ → ℕ → ℕ → Made
rows_made text s a f rule = cond (eqb rule rule_size) (rule_from text s a f) (refuses 13)

-- what the call answers
abbrev pub rows_answer : Made → Result Unit ℕ
rows_answer (makes m) = (Ok tt)
rows_answer (refuses k) = Err k

-- by value
abbrev pub rows_value : Made → WithTable (Result Unit ℕ)
rows_value x = record { answer = rows_answer x; table = made_table x }

-- across the C call: 2^48; a refusal is its number
abbrev pub rows_number : Result Unit ℕ → ℕ
rows_number (Ok tt) = accepted_from
rows_number (Err k) = k
