-- Lines in turn: "lines are taken in turn, 3 to 8 tested on each before the next".
-- Assumes nothing.
use Rattle.std.specs.Prelude.{Bool, cond, List, [], ◌∷◌, ℕ, zero, suc, drop}
use Rattle.lines.specs.Line.{Due, ends, no_line, found, line_length, line_of}

-- lines of one letter: how many fields they have, the number of their own refusal, and the test of a line's numbers,
-- given its place among them and the numbers of the line before it
pub record LineKind : Type 0 where
  pub letter : ℕ
  pub count : ℕ
  pub refusal : ℕ
  pub good : ℕ → List ℕ → List ℕ → Bool

-- lines that were read, with the bytes after them; or the first refusal's number
pub data Lines : Type 0 where
  lines : List (List ℕ) → List ℕ → Lines
  refused : ℕ → Lines

-- a line before those that follow
abbrev pub cons_line : List ℕ → Lines → Lines
cons_line ns (lines ls rest) = lines (ns ∷ ls) rest
cons_line ns (refused k) = refused k

-- on what is found where a line is due: 3, 4, or what is to be done with its numbers
abbrev pub on_due : Due → (List ℕ → Lines) → Lines
on_due ends f = refused 3
on_due no_line f = refused 4
on_due (found ns) f = f ns

-- so many lines of a kind, from place i on, after a line with the numbers `before`
unfoldable pub lines_of : LineKind → ℕ → ℕ → List ℕ → List ℕ → Lines
lines_of k zero i before bytes = lines [] bytes
lines_of k (suc c) i before bytes =
    on_due (line_of k.letter k.count bytes)
    (λ ns. cond (k.good i before ns) (cons_line ns (lines_of k c (suc i) ns (drop (line_length k.count) bytes))) (refused k.refusal))
