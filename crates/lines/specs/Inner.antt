-- What stands where a line is due, as the readers of a line's frame and of its numbers return it.
-- Inner contracts: what functions ask of and leave to each other. No promise is stated in them; a reader need not believe them.
-- Assumes nothing.
use Rattle.std.specs.Prelude.{◌≡◌, List, ◌++◌, ℕ, ◌≤◌, length, take, drop}
use Rattle.lines.specs.Line.{fields_of, Due, ends, no_line, found, found_in, line_length, line_of}
use Rattle.lines.specs.Places.{numbers_of}

-- what is due, as a number: 3, 4, or 0 for a line
abbrev pub due_status : Due → ℕ
due_status ends = 3
due_status no_line = 4
due_status (found ns) = 0

-- what is due, its fields aside: r is 3 or 4 where there is no such line, and 0 where the fields decide
pub record Framed (letter k : ℕ) (bytes : List ℕ) (r : ℕ) : Type 0 where
  pub stops : (r ≡ 0 → ⊥) → r ≡ due_status (line_of letter k bytes)
  pub line : r ≡ 0 → line_of letter k bytes ≡ found_in (fields_of k (drop 1 (take (line_length k) bytes)))
  pub within : r ≡ 0 → line_length k ≤ length bytes

-- what is due is read into the lent numbers l, which then are m: beside 0 the line's k numbers stand in front of those past them;
-- beside 3 and 4 the numbers are free
pub record DueRead (due : Due) (k : ℕ) (l m : List ℕ) (r : ℕ) : Type 0 where
  pub status : r ≡ due_status due
  pub numbers : r ≡ 0 → m ≡ numbers_of due ++ drop k l
