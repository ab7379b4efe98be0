-- What a caller of planning has: the plan in its buffer, counts that fit their places in the number, and the answer read back from it.
-- Statements, with a theorem for each in `proofs/`.
-- Assumes nothing.
use Rattle.std.specs.Prelude.{Result, Ok, Err, ◌≡◌, ◌↔◌, cond, List, ℕ, ◌^◌, ◌/◌, ◌%◌, ◌≤◌, ltb, length, take}
use Rattle.callnumber.specs.CallNumber.{accepted_from}
use Rattle.job.specs.Job.{Job}
use Rattle.planning.specs.Planning.{IsPlan}
use Rattle.planning.specs.Listing.{plan_of}
use Rattle.jobfile.specs.File.{Answer, accepted, turned}
use Rattle.passes.specs.declared.passes.Counts.{Counts}
use Rattle.passes.specs.Counts.{counts_of}
use Rattle.passes.specs.Running.{Stands}
use Rattle.admission.specs.Admission.{WrittenFirst}
use Rattle.planoutcome.specs.PlanCall.{plan_answer, outcome_of, plan_after, plan_number}

-- the plan buffer after planning, for an answer: the first N bytes are the job's plan and the rest is as it was; "a refusal leaves plan,
-- listing buffer and record unchanged"
pub data PlanLeft (before after : List ℕ) : Answer → Type 0 where
  planned
      : {j : Job} → WrittenFirst (length j.nodes) (plan_of j).plan before after → IsPlan j (take (length j.nodes) after)
      → PlanLeft before after (accepted j)
  unchanged : {k : ℕ} → after ≡ before → PlanLeft before after (turned k)

-- the statement: "accepted planning writes N plan bytes and no others"
abbrev pub PlanBytesSay : Type 0
PlanBytesSay =
    (file plan : List ℕ) (work : ℕ)
    → PlanLeft plan (plan_after (plan_answer file work (length plan)) plan) (plan_answer file work (length plan))

-- counts that fit their places of sixteen bits in the number
pub record CountsFit (c : Counts) : Type 0 where
  pub shadows : c.shadows ≤ 512
  pub enabled : c.enabled ≤ c.shadows
  pub passes : c.passes ≤ 513

-- the statement: the counts of every job that planning accepts fit
abbrev pub PlanCountsFit : Type 0
PlanCountsFit = (file : List ℕ) (work plan : ℕ) (j : Job) → plan_answer file work plan ≡ accepted j → CountsFit (counts_of j)

-- the outcome that a number tells: below 2^48 a refusal, from there on the counts
abbrev pub outcome_read : ℕ → Result Counts ℕ
outcome_read n =
    cond (ltb n accepted_from) (Err n)
    (Ok (record { shadows = n / 2 ^ 32 % 2 ^ 16; enabled = n / 2 ^ 16 % 2 ^ 16; passes = n % 2 ^ 16 }))

-- the statement: a caller sees by the number whether the job was planned, and reads back the counts or the refusal
pub record SeenByNumber : Type 0 where
  pub accepted_seen
      : (file : List ℕ) (work plan : ℕ)
      → (accepted_from ≤ plan_number (outcome_of (plan_answer file work plan))) ↔ ((j : Job) × (plan_answer file work plan ≡ accepted j))
  pub read_back
      : (file : List ℕ) (work plan : ℕ)
      → outcome_read (plan_number (outcome_of (plan_answer file work plan))) ≡ outcome_of (plan_answer file work plan)

-- the statement: in the number of an accepted job the watched points are the total that planning carried along, as it stands when the
-- passes in the number are over (document 02, request 3)
abbrev pub TotalInNumber : Type 0
TotalInNumber =
    (file : List ℕ) (work plan : ℕ) (j : Job) → plan_answer file work plan ≡ accepted j
    → let n = plan_number (outcome_of (plan_answer file work plan)) in
    Stands j (n % 2 ^ 16) 0 (plan_of j).plan (n / 2 ^ 16 % 2 ^ 16)
