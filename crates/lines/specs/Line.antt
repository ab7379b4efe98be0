-- Fields and lines (document 01, "The job file").
-- Assumes nothing.
use Rattle.std.specs.Prelude.{Bool, cond, ◌&&◌, List, [], ◌∷◌, ◌++◌, ℕ, zero, suc, ◌+◌, ◌-◌, ◌*◌, ◌/◌, ◌%◌, eqb, leb, ltb, length, take, drop, get_or, replicate, Option, Some, None}

-- ---- writing

-- the decimal digits of n, at most k of them, before a list
unfoldable pub decimal : ℕ → ℕ → List ℕ → List ℕ
decimal zero n rest = rest
decimal (suc k) n rest = cond (ltb n 10) ((48 + n) ∷ rest) (decimal k (n / 10) ((48 + n % 10) ∷ rest))

-- "fields of six columns, each a decimal number right-justified with spaces, without leading zeros (zero is "0")"
unfoldable pub field : ℕ → List ℕ
unfolding decimal
field n = replicate (6 - length (decimal 6 n [])) 32 ++ decimal 6 n []

-- fields one after the other
unfoldable pub fields : List ℕ → List ℕ
unfolding field
fields [] = []
fields (n ∷ ns) = field n ++ fields ns

-- "a line is one letter and then fields", "each line ended by byte 10"
abbrev pub line : ℕ → List ℕ → List ℕ
line letter ns = letter ∷ fields ns ++ (10 ∷ [])

-- lines written one after the other
unfoldable pub write_lines : ℕ → List (List ℕ) → List ℕ
write_lines letter [] = []
write_lines letter (ns ∷ ls) = line letter ns ++ write_lines letter ls

-- ---- reading

-- field i of a line
abbrev pub at : List ℕ → ℕ → ℕ
at ns i = get_or ns i 0

-- the bytes of the digits
abbrev pub is_digit : ℕ → Bool
is_digit b = leb 48 b && leb b 57

-- the number of digits to the end, after those whose value is v; nothing where another byte stands
unfoldable pub digits_of : ℕ → List ℕ → Option ℕ
digits_of v [] = Some v
digits_of v (b ∷ bs) = cond (is_digit b) (digits_of (v * 10 + (b - 48)) bs) None

-- a field is spaces, then one digit or more: "a field's number may now carry zeros before its digits instead of spaces, or after the
-- spaces" (document 02, request 5)
unfoldable pub field_of : List ℕ → Option ℕ
unfolding digits_of
field_of [] = None
field_of (b ∷ bs) = cond (eqb b 32) (field_of bs) (digits_of 0 (b ∷ bs))

-- the numbers of k fields, or that one of them is none
pub data Numbers : Type 0 where
  numbers : List ℕ → Numbers
  no_numbers : Numbers

-- a field before those that follow
abbrev pub cons_field : Option ℕ → Numbers → Numbers
cons_field (Some n) (numbers ns) = numbers (n ∷ ns)
cons_field (Some n) no_numbers = no_numbers
cons_field None (numbers ns) = no_numbers
cons_field None no_numbers = no_numbers

-- the fields at the start of the bytes, six columns each
unfoldable pub fields_of : ℕ → List ℕ → Numbers
unfolding field_of
fields_of zero bytes = numbers []
fields_of (suc k) bytes = cons_field (field_of (take 6 bytes)) (fields_of k (drop 6 bytes))

-- what stands where a line is due: nothing (refusal 3), no such line (refusal 4), or a line with its numbers
pub data Due : Type 0 where
  ends : Due
  no_line : Due
  found : List ℕ → Due

-- a line where all its fields are numbers
abbrev pub found_in : Numbers → Due
found_in (numbers ns) = found ns
found_in no_numbers = no_line

-- the bytes of a line of k fields
abbrev pub line_length : ℕ → ℕ
line_length k = k * 6 + 2

-- the line of k fields with this letter at the start of the bytes
unfoldable pub line_of : ℕ → ℕ → List ℕ → Due
unfolding fields_of
line_of letter k [] = ends
line_of letter k (b ∷ bytes) =
    cond (eqb b letter && leb (k * 6 + 1) (length bytes) && eqb (get_or bytes (k * 6) 0) 10) (found_in (fields_of k bytes)) no_line
