-- Files of numbered lines alike (document 02, request 5): zeros before a number's digits, "must give the same answer as the file written
-- without". For lines of any kind, as many as are due.
-- Assumes nothing.
use Rattle.std.specs.Prelude.{◌≡◌, List, [], ◌∷◌, ◌++◌, ℕ, length, replicate}
use Rattle.lines.specs.Lines.{LineKind}
use Rattle.lines.specs.Written.{FirstBad}
use Rattle.lines.specs.Alike.{AlikeUpTo, NoZerosOver, FileDue, AlikeFiles}
use Rattle.pricing.specs.Numbered.{numbered_line, column_in, write_column, ColumnFile}

-- the statement: files alike are read alike. Of a file that is turned back at a line, what follows that line is not looked at. Files of one
-- length with alike lines due are read alike whatever follows these lines: a file that is more than its lines is "not exactly these lines" by
-- any bytes. Of numbered lines, the files of the same numbers are alike; the file written of these numbers is alike each of them, and is the
-- only one that has no zeros before a number's digits
pub record NumberedSayAlike : Type 0 where
  pub read_alike : (k : LineKind) (c : ℕ) (f g : List ℕ) → AlikeFiles k c f g → column_in k c f ≡ column_in k c g
  pub turned_back
      : (k : LineKind) (c : ℕ) (f g : List ℕ) (r : ℕ) (b : FirstBad k c 0 [] f r)
      → AlikeUpTo (replicate (length b.passed) k.count ++ (k.count ∷ [])) f g → column_in k c f ≡ column_in k c g
  pub no_further
      : (k : LineKind) (c : ℕ) (f g due : List ℕ) → length f ≡ length g → FileDue k c f due → AlikeUpTo due f g
      → column_in k c f ≡ column_in k c g
  pub same_numbers
      : (letter limit refusal c : ℕ) (f g numbers : List ℕ) → ColumnFile (numbered_line letter limit refusal) c f numbers
      → ColumnFile (numbered_line letter limit refusal) c g numbers → AlikeFiles (numbered_line letter limit refusal) c f g
  pub written
      : (letter limit refusal c : ℕ) (file numbers : List ℕ) → ColumnFile (numbered_line letter limit refusal) c file numbers
      → AlikeFiles (numbered_line letter limit refusal) c (write_column letter 0 numbers) file
  pub without_zeros
      : (letter limit refusal c : ℕ) (file numbers : List ℕ) → ColumnFile (numbered_line letter limit refusal) c file numbers
      → NoZerosOver (replicate (length numbers) 2) (write_column letter 0 numbers)
  pub only
      : (letter limit refusal c : ℕ) (file numbers : List ℕ) → ColumnFile (numbered_line letter limit refusal) c file numbers
      → NoZerosOver (replicate (length numbers) 2) file → file ≡ write_column letter 0 numbers
