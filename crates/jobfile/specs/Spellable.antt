-- The jobs that a job file can spell (document 01, "The job file").
-- Assumes nothing.
use Rattle.std.specs.Prelude.{◌≡◌, ◌≢◌, ◌⊎◌, ◌↔◌, false, List, [], ◌∷◌, ℕ, ◌≤◌, ◌<◌, length, get_or}
use Rattle.job.specs.Job.{Edge, Job, WellFormedJob, node_at}
use Rattle.jobfile.specs.File.{max_file, accepted, read_job, write_job}
use Rattle.jobfile.specs.Alike.{Alike, WithoutZeros}

-- "ascending by from, then to"
abbrev pub Before : Edge → Edge → Type 0
Before d e = (d.from < e.from) ⊎ ((d.from ≡ e.from) × (d.to < e.to))

-- "strictly ascending": each edge but the first after the one before it
pub data Ascending : List Edge → Type 0 where
  no_edge : Ascending []
  one_edge : {e : Edge} → Ascending (e ∷ [])
  next_edge : {d e : Edge} {es : List Edge} → Before d e → Ascending (e ∷ es) → Ascending (d ∷ e ∷ es)

-- a job within the limits of the file: S rows of A next states, 1 to 512 nodes, at most 2,048 edges that ascend, no after set
-- without exit, and an entry; the limits of S and A, and that what is named exists, are the job's well-formedness
pub record Spellable (j : Job) : Type 0 where
  pub well_formed_holds : WellFormedJob j
  pub rows : length j.rule.table ≡ j.rule.states
  pub columns : (q : ℕ) → q < j.rule.states → length (get_or j.rule.table q []) ≡ j.rule.symbols
  pub some_node : 1 ≤ length j.nodes
  pub few_nodes : length j.nodes ≤ 512
  pub few_edges : length j.edges ≤ 2048
  pub ascending : Ascending j.edges
  pub afters : (n : ℕ) → (node_at j n).exit ≡ false → (node_at j n).after ≡ 0
  pub some_entry_holds : (n : ℕ) × ((node_at j n).entry ≢ 0)

-- the statement: a file is accepted with a job if and only if it is alike the file written from that job, and the job is spellable
abbrev pub ReadsWhatIsWritten : Type 0
ReadsWhatIsWritten = (file : List ℕ) (j : Job) → (read_job file ≡ accepted j) ↔ (Alike (write_job j) file × Spellable j)

-- the statement: the files of a job are alike, and just one has no zeros before a number's digits, the file written from that job, which
-- is accepted as any file without zeros; an accepted file need not be the written one
pub record AcceptedOnce : Type 0 where
  pub alike : (f g : List ℕ) (j : Job) → read_job f ≡ accepted j → read_job g ≡ accepted j → Alike f g
  pub written : (j : Job) → Spellable j → WithoutZeros (write_job j)
  pub only : (file : List ℕ) (j : Job) → WithoutZeros file → (read_job file ≡ accepted j) ↔ ((file ≡ write_job j) × Spellable j)
  pub others : (file : List ℕ) × (j : Job) × (read_job file ≡ accepted j) × (file ≢ write_job j)

-- the statement: an accepted job is well formed
abbrev pub AcceptsWellFormed : Type 0
AcceptsWellFormed = (file : List ℕ) (j : Job) → read_job file ≡ accepted j → WellFormedJob j

-- the statement: the longest file of a job has 49,914 bytes
abbrev pub LongestFile : Type 0
LongestFile =
    ((j : Job) (file : List ℕ) → Spellable j → Alike (write_job j) file → length file ≤ max_file)
    × ((j : Job) × Spellable j × (length (write_job j) ≡ max_file))
