-- What the listing of the job that the work buffer holds asks and leaves.
-- Inner contracts: what functions ask of and leave to each other. No promise is stated in them; a reader need not believe them.
-- Assumes nothing.
use Rattle.std.specs.Prelude.{◌≡◌, List, ℕ, length}
use Rattle.std.proofs.lemmas.List.Edits.{sets}
use Rattle.job.specs.Job.{Job}
use Rattle.buffer.specs.Buffer.{work_size}
use Rattle.buffer.specs.Layout.{nodes_part}
use Rattle.buffer.specs.Kept.{SameOutside}
use Rattle.tables.specs.Held.{JobHeld}
use Rattle.listoutcome.specs.ListCall.{bytes_for}

-- the work buffer holds some job
abbrev pub SomeJob : List ℕ → List (List ℕ) → ℕ → ℕ → ℕ → Type 0
SomeJob work table finals states nodes = (j : Job) × JobHeld j work table finals states nodes

-- the listing buffer holds the listing of every job that the work buffer holds; the work buffer's bytes past the first 65,536 are as they
-- were
pub record ListedHeld (table : List (List ℕ)) (finals states nodes : ℕ) (l m before after : List ℕ) (long : ℕ) : Type 0 where
  pub kept : SameOutside l m nodes_part work_size
  pub exact
      : (j : Job) → JobHeld j l table finals states nodes → (long ≡ length (bytes_for j)) × (after ≡ sets before 0 (bytes_for j))
