-- Files of numbered lines (document 02): one line for each place in order, which has its place and a number. "Lines of this and later files are
-- built as in the job file."
-- Assumes nothing.
use Rattle.std.specs.Prelude.{◌≡◌, ◌↔◌, Bool, true, ◌&&◌, List, [], ◌∷◌, ◌++◌, map, ℕ, suc, ◌≤◌, ◌<◌, eqb, leb, length, get_or}
use Rattle.lines.specs.Line.{line, at}
use Rattle.lines.specs.Lines.{LineKind, Lines, lines, refused, lines_of}
use Rattle.lines.specs.Written.{LinesAt}

-- ---- reading

-- the line of place i: its place, and a number up to the limit
abbrev pub good_numbered : ℕ → ℕ → List ℕ → List ℕ → Bool
good_numbered limit i before ns = eqb (at ns 0) i && leb (at ns 1) limit

-- such lines, with their letter and the refusal of their file
abbrev pub numbered_line : ℕ → ℕ → ℕ → LineKind
numbered_line letter limit refusal = record { letter = letter; count = 2; refusal = refusal; good = good_numbered limit }

-- the numbers of a file, in the order of its lines; or the file "is not exactly these lines"
pub data Column : Type 0 where
  column : List ℕ → Column
  not_these_lines : Column

-- the number beside each place
abbrev pub numbers_in : List (List ℕ) → List ℕ
numbers_in ls = map (λ (ns : List ℕ). at ns 1) ls

-- every line passes, and nothing follows them
abbrev pub column_read : Lines → Column
column_read (lines ls []) = column (numbers_in ls)
column_read (lines ls (b ∷ rest)) = not_these_lines
column_read (refused k) = not_these_lines

-- a file of so many lines of a kind
unfoldable pub column_in : LineKind → ℕ → List ℕ → Column
unfolding lines_of
column_in k c file = column_read (lines_of k c 0 [] file)

-- ---- writing

-- the lines of numbers, from place i on
unfoldable pub write_column : ℕ → ℕ → List ℕ → List ℕ
write_column letter i [] = []
write_column letter i (n ∷ ns) = line letter (i ∷ n ∷ []) ++ write_column letter (suc i) ns

-- ---- what is read, said of the lines that stand in the file

-- a file is exactly these lines, with these numbers
pub record ColumnFile (k : LineKind) (c : ℕ) (file numbers : List ℕ) : Type 0 where
  pub lines : List (List ℕ)
  pub stand : LinesAt k c 0 [] file lines []
  pub are : numbers ≡ numbers_in lines

-- the statement: the test of a line in words; the numbers are read if and only if the file is exactly these lines; every file written of
-- numbers within the limit is
pub record NumberedSays : Type 0 where
  pub test
      : (limit i : ℕ) (before ns : List ℕ) → (good_numbered limit i before ns ≡ true) ↔ ((at ns 0 ≡ i) × (at ns 1 ≤ limit))
  pub read : (k : LineKind) (c : ℕ) (file numbers : List ℕ) → (column_in k c file ≡ column numbers) ↔ ColumnFile k c file numbers
  pub written
      : (letter limit refusal : ℕ) (numbers : List ℕ) → limit < 1000000 → length numbers ≤ 1000000
      → ((i : ℕ) → get_or numbers i 0 ≤ limit)
      → column_in (numbered_line letter limit refusal) (length numbers) (write_column letter 0 numbers) ≡ column numbers
