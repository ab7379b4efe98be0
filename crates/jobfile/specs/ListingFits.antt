-- The numbers of the listing have at most six digits, so that no field cuts one (document 01, "One listing in full"), and are read
-- back from what is printed.
-- Assumes nothing.
use Rattle.std.specs.Prelude.{◌≡◌, true, List, [], ◌∷◌, map, ℕ, ◌≤◌, length, get_or}
use Rattle.job.specs.Job.{Job}
use Rattle.planning.specs.Listing.{listing_of}
use Rattle.lines.specs.Line.{found, line_of}
use Rattle.lines.specs.Lines.{LineKind, lines, lines_of}
use Rattle.lines.specs.Written.{Fits}
use Rattle.jobfile.specs.File.{turned, read_job}
use Rattle.jobfile.specs.ListingLines.{shadow_numbers, total_numbers, total_bytes, listing_bytes, refused_bytes}
use Rattle.jobfile.specs.Spellable.{Spellable}

-- the last number of "Turned back, by number"
abbrev pub max_refusal : ℕ
max_refusal = 15

-- the statement: so it is in each W line and the T line of every job that a file spells, and in every X line
pub record ListingFits : Type 0 where
  -- the W line at place i; past the last one there are no numbers
  pub shadows : (j : Job) → Spellable j → (i : ℕ) → Fits (get_or (map shadow_numbers (listing_of j).shadows) i [])
  pub total : (j : Job) → Spellable j → Fits (total_numbers (listing_of j).total)
  pub refused : (k : ℕ) → k ≤ max_refusal → Fits (k ∷ [])
  -- what a file is turned back by is such a number
  pub turned_back : (file : List ℕ) (k : ℕ) → read_job file ≡ turned k → k ≤ max_refusal

-- W lines, whatever their numbers
abbrev pub shadow_kind : LineKind
shadow_kind = record { letter = 87; count = 6; refusal = 4; good = λ i before ns. true }

-- the statement: what is printed is read back, line by line, as the listing's numbers
pub record ListingReadBack : Type 0 where
  pub shadows
      : (j : Job) → Spellable j
      → lines_of shadow_kind (length (listing_of j).shadows) 0 [] (listing_bytes (listing_of j))
      ≡ lines (map shadow_numbers (listing_of j).shadows) (total_bytes (listing_of j).total)
  pub total : (j : Job) → Spellable j → line_of 84 3 (total_bytes (listing_of j).total) ≡ found (total_numbers (listing_of j).total)
  pub refused : (k : ℕ) → k ≤ max_refusal → line_of 88 1 (refused_bytes k) ≡ found (k ∷ [])
