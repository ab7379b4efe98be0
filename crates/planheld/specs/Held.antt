-- What the plan of the job that the work buffer holds leaves.
-- Inner contracts: what functions ask of and leave to each other. No promise is stated in them; a reader need not believe them.
-- Assumes nothing.
use Rattle.std.specs.Prelude.{◌≡◌, List, ℕ}
use Rattle.std.proofs.lemmas.List.Edits.{sets}
use Rattle.job.specs.Job.{Job}
use Rattle.planning.specs.Listing.{plan_of}
use Rattle.buffer.specs.Buffer.{work_size}
use Rattle.buffer.specs.Layout.{nodes_part}
use Rattle.buffer.specs.Kept.{SameOutside}
use Rattle.tables.specs.Held.{JobHeld}
use Rattle.passes.specs.declared.passes.Counts.{Counts}
use Rattle.passes.specs.Counts.{counts_of}

-- the plan buffer holds the plan of every job that the work buffer holds; the work buffer's bytes past the first 65,536 are as they were
pub record PlannedHeld (table : List (List ℕ)) (finals states nodes : ℕ) (l m before after : List ℕ) (counts : Counts) : Type 0 where
  pub kept : SameOutside l m nodes_part work_size
  pub exact
      : (j : Job) → JobHeld j l table finals states nodes → (counts ≡ counts_of j) × (after ≡ sets before 0 (plan_of j).plan)
