-- Lines by their places: what stands in the place of each line of a kind, and whether it passes.
-- Inner contracts: what functions ask of and leave to each other. No promise is stated in them; a reader need not believe them.
-- Assumes nothing.
use Rattle.std.specs.Prelude.{◌≡◌, cond, List, [], ℕ, zero, suc, ◌*◌, ◌≤◌, ◌<◌, length, drop}
use Rattle.lines.specs.Line.{Due, ends, no_line, found, line_length, line_of}
use Rattle.lines.specs.Lines.{LineKind, Lines, lines, refused, lines_of}

-- the numbers of what is due
abbrev pub numbers_of : Due → List ℕ
numbers_of ends = []
numbers_of no_line = []
numbers_of (found ns) = ns

-- 0 for a line that passes, or the number of its refusal
abbrev pub status_of : LineKind → ℕ → List ℕ → Due → ℕ
status_of k i before ends = 3
status_of k i before no_line = 4
status_of k i before (found ns) = cond (k.good i before ns) 0 k.refusal

-- what stands in the place of line i of a kind, from the start of the bytes on
unfoldable pub due_at : LineKind → List ℕ → ℕ → Due
due_at k bytes i = line_of k.letter k.count (drop (i * line_length k.count) bytes)

-- its numbers
unfoldable pub numbers_at : LineKind → List ℕ → ℕ → List ℕ
unfolding due_at
numbers_at k bytes i = numbers_of (due_at k bytes i)

-- the numbers of the line before it
unfoldable pub before_at : LineKind → List ℕ → ℕ → List ℕ
unfolding numbers_at
before_at k bytes zero = []
before_at k bytes (suc i) = numbers_at k bytes i

-- whether it passes
unfoldable pub status_at : LineKind → List ℕ → ℕ → ℕ
unfolding before_at due_at
status_at k bytes i = status_of k i (before_at k bytes i) (due_at k bytes i)

-- 0 for lines that were read, or the first refusal's number
abbrev pub refusal_in : Lines → ℕ
refusal_in (lines ls rest) = 0
refusal_in (refused k) = k

-- c lines of a kind were read, with this status
pub record LinesRead (k : LineKind) (bytes : List ℕ) (c status : ℕ) : Type 0 where
  pub refusal : status ≡ refusal_in (lines_of k c 0 [] bytes)
  pub passed : status ≡ 0 → (j : ℕ) → j < c → status_at k bytes j ≡ 0
  pub within : status ≡ 0 → c * line_length k.count ≤ length bytes
