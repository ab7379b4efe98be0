-- Planning as a call (document 01, "Planning", "The job file" and "Turned back, by number"): its answer, and what it leaves of the lent bytes.
-- Assumes nothing.
use Rattle.std.specs.Prelude.{Result, Ok, Err, ◌||◌, List, ℕ, ◌+◌, ◌*◌, ◌^◌, ltb}
use Rattle.std.proofs.lemmas.List.Edits.{sets}
use Rattle.callnumber.specs.CallNumber.{accepted_from}
use Rattle.planning.specs.Listing.{plan_of}
use Rattle.jobfile.specs.File.{Answer, accepted, turned}
use Rattle.buffer.specs.Buffer.{work_size}
use Rattle.passes.specs.Counts.{counts_of}
use Rattle.admission.specs.Admission.{admitted}
use Rattle.passes.specs.declared.passes.Counts.{Counts}

-- "a plan buffer of at least 512 bytes", also where N is smaller
abbrev pub plan_size : ℕ
plan_size = 512

-- for a work buffer and a plan buffer of these lengths
abbrev pub plan_answer : List ℕ → ℕ → ℕ → Answer
plan_answer file work plan = admitted file (ltb work work_size || ltb plan plan_size)

-- what planning answers
abbrev pub outcome_of : Answer → Result Counts ℕ
outcome_of (accepted j) = Ok (counts_of j)
outcome_of (turned k) = Err k

-- "accepted planning writes N plan bytes and no others"; "a refusal leaves plan, listing buffer and record unchanged"
abbrev pub plan_after : Answer → List ℕ → List ℕ
plan_after (accepted j) plan = sets plan 0 (plan_of j).plan
plan_after (turned k) plan = plan

-- "accepted planning is 2^48 plus event nodes times 2^32, watched points times 2^16, and passes; a refusal is its number"
abbrev pub plan_number : Result Counts ℕ → ℕ
plan_number (Ok c) = accepted_from + c.shadows * 2 ^ 32 + c.enabled * 2 ^ 16 + c.passes
plan_number (Err k) = k
