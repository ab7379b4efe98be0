-- What the verdicts of the plan check say (document 01, "Nodes and walks" and "Turned back, by number"), of walks and not of searches; and
-- that a caller reads the verdict back from the number.
-- Assumes nothing.
use Rattle.std.specs.Prelude.{Result, Ok, Err, ◌≡◌, ◌↔◌, true, cond, List, ℕ, ◌+◌, ◌≤◌, ◌<◌, eqb, length, get_or}
use Rattle.callnumber.specs.CallNumber.{accepted_from}
use Rattle.job.specs.Job.{Kind, is_event, Job, node_at}
use Rattle.job.specs.Plan.{enables, Faithful as FaithfulPlan, Different as DifferentPlan}
use Rattle.jobfile.specs.File.{accepted, max_file, read_job}
use Rattle.buffer.specs.Buffer.{work_size, cleared}
use Rattle.checking.specs.Checking.{checked, work_left, verdict_number}
use Rattle.checking.specs.declared.check.Verdict.{Verdict}
use Rattle.checking.specs.declared.check.Verdict.TheVariants.{Faithful, Different}

-- the bytes that a plan may have: 0 at any node, and 1 at an event node
pub data MarkFor : Kind → ℕ → Type 0 where
  unwatched : {k : Kind} → MarkFor k 0
  watched : {k : Kind} → is_event k ≡ true → MarkFor k 1

-- nothing is turned back: file and work buffer have their sizes, the file spells the job, and the plan has a byte for each of its nodes
pub record Admissible (file plan : List ℕ) (size : ℕ) (j : Job) : Type 0 where
  pub short : length file ≤ max_file
  pub room : work_size ≤ size
  pub spells : read_job file ≡ accepted j
  pub bytes : length plan ≡ length j.nodes
  pub marks : (n : ℕ) → n < length j.nodes → MarkFor (node_at j n).kind (get_or plan n 0)

-- the statement: the verdict is faithful if and only if the plan is, for the file's job
abbrev pub SaysFaithful : Type 0
SaysFaithful =
    (file plan : List ℕ) (size : ℕ)
    → (checked file plan size ≡ Ok Faithful) ↔ ((j : Job) × Admissible file plan size j × FaithfulPlan j (enables plan))

-- the statement: it is different if and only if a walk of the file's job shows a difference
abbrev pub SaysDifferent : Type 0
SaysDifferent =
    (file plan : List ℕ) (size : ℕ)
    → (checked file plan size ≡ Ok Different) ↔ ((j : Job) × Admissible file plan size j × DifferentPlan j (enables plan))

-- the statement: "after 1 or 2 the work buffer is unchanged; after any other answer its first 65,536 bytes are zero and the rest unchanged"
pub record WorkBufferSays : Type 0 where
  pub left_by_1 : (work : List ℕ) → work_left (Err 1) work ≡ work
  pub left_by_2 : (work : List ℕ) → work_left (Err 2) work ≡ work
  pub cleared_else : (v : Result Verdict ℕ) (work : List ℕ) → (v ≡ Err 1 → ⊥) → (v ≡ Err 2 → ⊥) → work_left v work ≡ cleared work

-- the verdict that a number tells: 2^48 is faithful, 2^48 plus 1 different, any other a refusal
abbrev pub verdict_read : ℕ → Result Verdict ℕ
verdict_read n = cond (eqb n accepted_from) (Ok Faithful) (cond (eqb n (accepted_from + 1)) (Ok Different) (Err n))

-- the statement: a caller reads back the verdict or the refusal from the number
abbrev pub VerdictByNumber : Type 0
VerdictByNumber =
    (file plan : List ℕ) (size : ℕ) → verdict_read (verdict_number (checked file plan size)) ≡ checked file plan size
