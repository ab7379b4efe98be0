-- The lines that are written of what was found.
-- Inner contracts: what functions ask of and leave to each other. No promise is stated in them; a reader need not believe them.
-- Assumes nothing.
use Rattle.std.specs.Prelude.{◌≡◌, Bool, cond, List, [], ℕ, ◌+◌, ◌*◌, ◌≤◌, ◌<◌, length}
use Rattle.std.proofs.lemmas.List.Edits.{sets}
use Rattle.job.specs.Job.{point_of, Job, node_at}
use Rattle.planning.specs.Listing.{plan_of, line_at, listing_of}
use Rattle.jobfile.specs.ListingLines.{shadows_bytes, listing_bytes}
use Rattle.passes.specs.declared.passes.Counts.{Counts}
use Rattle.passes.specs.Counts.{counts_of}
use Rattle.found.specs.FoundHeld.{FoundHeld}

-- a mark as a number
abbrev pub byte_of : Bool → ℕ
byte_of b = cond b 1 0

-- the W line of node n was written from `at` on, where it is a point; next is the place after it
pub record PointWritten (table : List (List ℕ)) (finals states n at : ℕ) (work before after : List ℕ) (next : ℕ) : Type 0 where
  pub long : length after ≡ length before
  pub near : next ≤ at + 38
  pub exact
      : (j : Job) (nodes : ℕ) → FoundHeld j work table finals states nodes → n < nodes
      → (after ≡ sets before at (shadows_bytes (line_at j (plan_of j).plan n (point_of (node_at j n).kind) [])))
      × (next ≡ at + length (shadows_bytes (line_at j (plan_of j).plan n (point_of (node_at j n).kind) [])))

-- the W lines of all points were written
pub record PointsWritten (table : List (List ℕ)) (finals states nodes : ℕ) (work before after : List ℕ) (next : ℕ) : Type 0 where
  pub long : length after ≡ length before
  pub near : next ≤ nodes * 38
  pub exact
      : (j : Job) → FoundHeld j work table finals states nodes
      → (after ≡ sets before 0 (shadows_bytes (listing_of j).shadows)) × (next ≡ length (shadows_bytes (listing_of j).shadows))

-- the listing was written
pub record LinesWritten (table : List (List ℕ)) (finals states nodes : ℕ) (counts : Counts) (work before after : List ℕ) (long : ℕ) : Type 0 where
  pub exact
      : (j : Job) → FoundHeld j work table finals states nodes → counts ≡ counts_of j
      → (after ≡ sets before 0 (listing_bytes (listing_of j))) × (long ≡ length (listing_bytes (listing_of j)))
