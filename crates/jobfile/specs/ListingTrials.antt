-- Listings with their right text: PAIR's and LOOP's of document 01, then our own.
-- That they are printed so, `AllPrinted listing_trials`, is a theorem of `proofs/`.
-- Assumes nothing.
use Rattle.std.specs.Prelude.{◌≡◌, List, [], ◌∷◌}
use Prim.Native.String.{String}
use Rattle.planning.specs.Trials.{loop, no_point, around_the_ring}
use Rattle.jobfile.specs.File.{Answer, accepted, turned, read_job}
use Rattle.jobfile.specs.FileTrials.{lines_in, pair_file}
use Rattle.jobfile.specs.ListingLines.{printed_for}

-- a file's answer and the lines that are printed for it
pub record ListingTrial : Type 0 where
  pub answer : Answer
  pub text : List String

-- a row of the table
abbrev pub prints : Answer → List String → ListingTrial
prints answer text = record { answer = answer; text = text }

infixr 5 ◌and◌
-- every listing of a table is printed as it should be
pub data AllPrinted : List ListingTrial → Type 0 where
  done : AllPrinted []
  ◌and◌
      : {t : ListingTrial} {ts : List ListingTrial} → printed_for t.answer ≡ lines_in t.text → AllPrinted ts
      → AllPrinted (t ∷ ts)

-- the table
unfoldable pub listing_trials : List ListingTrial
unfolding pair_file
listing_trials =
    -- PAIR, from its file
    prints (read_job pair_file)
    ("W     0     0     1     1     1     0"
    ∷ "W     1     0     2     2     1     1"
    ∷ "W     2     2     2     1     0     1"
    ∷ "T     3     2     2"
    ∷ [])
    -- LOOP
    ∷ prints (accepted loop)
    ("W     0     0     5     2     1     0" ∷ "W     1     1     6     2     1     0" ∷ "T     2     0     3" ∷ [])
    -- a set of five digits
    ∷ prints (accepted around_the_ring) ("W     0     0 65535     2     0     1" ∷ "T     1     1     1" ∷ [])
    -- no event node
    ∷ prints (accepted no_point) ("T     0     0     1" ∷ [])
    -- the empty file, and a refusal of two digits
    ∷ prints (read_job []) ("X     3" ∷ [])
    ∷ prints (turned 10) ("X    10" ∷ [])
    ∷ []
