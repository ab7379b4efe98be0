-- Laws of planning as a call: what an accepted answer says of the file, which plan is then left, and that the caller reads the answer back
-- from the number.
-- Assumes nothing.
use Rattle.std.specs.Prelude.{Ok, Err}
use mathlib.Core.Path.{◌≡◌, refl, sym, ap, ◌∙◌, subst}
use mathlib.Core.Bool.{Bool, ◌||◌, true≢false}
use mathlib.Core.List.{List}
use Prim.Native.Nat.{ℕ, ◌^◌, ◌/◌, ◌%◌, ◌≤◌}
use native.Mathlib.Omega.{arith}
use lib.Dec.{ltb}
use lib.ListN.{length, take}
use borrow.Author.Tests.{ltb-false, lt-ltb, le-ltb}
use Rattle.laws.proofs.Tests.{fails_of, or_right}
use Rattle.callnumber.specs.CallNumber.{accepted_from}
use Rattle.job.specs.Job.{Job}
use Rattle.planning.specs.Planning.{IsPlan}
use Rattle.planning.specs.Listing.{plan_of}
use Rattle.job.specs.Search.{faithful}
use Rattle.planning.proofs.PlanningResult.{planned_plan, planned_counts}
use Rattle.jobfile.specs.File.{Answer, accepted, turned, read_job}
use Rattle.jobfile.proofs.SpellableLaws.{read_written}
use Rattle.buffer.specs.Buffer.{work_size}
use Rattle.passes.specs.declared.passes.Counts.{Counts}
use Rattle.passes.specs.Counts.{counts_of}
use Rattle.passes.specs.Running.{Stands}
use Rattle.passes.proofs.RunningLaws.{running_total}
use Rattle.admission.specs.Admission.{admitted, WrittenFirst}
use Rattle.planoutcome.specs.PlanCall.{plan_size, plan_answer, outcome_of, plan_after, plan_number}
use Rattle.planoutcome.specs.PlanSays.{PlanLeft, planned, unchanged, PlanBytesSay, CountsFit, PlanCountsFit, outcome_read, SeenByNumber, TotalInNumber}
use Rattle.admission.proofs.AdmissionLaws.{admitted_reads, admitted_small}
use Rattle.admission.proofs.CallLaws.{written_first}
use Rattle.planoutcome.proofs.CountLaws.{counts_admitted}

-- ---- the plan

-- planning that is accepted: the file is
pub plan_answer_reads : (file : List ℕ) (work plan : ℕ) (j : Job) → plan_answer file work plan ≡ accepted j → read_job file ≡ accepted j
plan_answer_reads file work plan j e = (admitted_reads file (ltb work work_size || ltb plan plan_size) j e).1

-- then the plan of the job is written first in the plan buffer
plan_written
    : (file plan : List ℕ) (work : ℕ) (j : Job) → plan_answer file work (length plan) ≡ accepted j
    → WrittenFirst (length j.nodes) (plan_of j).plan plan (plan_after (accepted j) plan)
plan_written file plan work j e =
    let read = admitted_reads file (ltb work work_size || ltb (length plan) plan_size) j e in
    let few = (read_written file j read.1).1.few_nodes in
    let short = ltb (length plan) plan_size in
    let roomy = ltb-false (length plan) plan_size (fails_of short (λ t. true≢false (sym (or_right (ltb work work_size) short t) ∙ read.0))) in
    written_first (length j.nodes) (plan_of j).plan plan (planned_plan (faithful j) j).long (omega arith)

-- so its first N bytes are that plan
pub plan_after_plan
    : (file plan : List ℕ) (work : ℕ) (j : Job) → plan_answer file work (length plan) ≡ accepted j
    → take (length j.nodes) (plan_after (plan_answer file work (length plan)) plan) ≡ (plan_of j).plan
plan_after_plan file plan work j e =
    ap (λ (a : Answer). take (length j.nodes) (plan_after a plan)) e ∙ (plan_written file plan work j e).first

-- the plan buffer after planning
pub plan_bytes_say : PlanBytesSay
plan_bytes_say file plan work = go (plan_answer file work (length plan)) refl
  where
    go : (a : Answer) → plan_answer file work (length plan) ≡ a → PlanLeft plan (plan_after a plan) a
    go (accepted j) e =
        let written = plan_written file plan work j e in
        planned written (subst (λ (p : List ℕ). IsPlan j p) (sym written.first) (planned_plan (faithful j) j))
    go (turned k) e = unchanged refl

-- ---- the number

-- the counts of an accepted job fit
fit_admitted : (file : List ℕ) (short : Bool) (j : Job) → admitted file short ≡ accepted j → CountsFit (counts_of j)
fit_admitted file short j e =
    let fit = counts_admitted file short j e in
    record { shadows = fit.shadows; enabled = (planned_counts (faithful j) j).enabled; passes = fit.passes }

-- whatever the lengths of the buffers
pub plan_counts_fit : PlanCountsFit
plan_counts_fit file work plan j e = fit_admitted file (ltb work work_size || ltb plan plan_size) j e

-- whatever the file
pub counts_fit : (file : List ℕ) (short : Bool) (c : Counts) → Ok c ≡ outcome_of (admitted file short) → CountsFit c
counts_fit file short c e = go (admitted file short) refl e
  where
    go : (a : Answer) → admitted file short ≡ a → Ok c ≡ outcome_of a → CountsFit c
    go (accepted j) is e =
        let same : c ≡ counts_of j = cc e in
        subst (λ (x : Counts). CountsFit x) (sym same) (fit_admitted file short j is)
    go (turned k) is e = let z : ◌≡◌ {A = ℕ} 0 1 = cc e in absurd (omega arith)

-- the watched points and the passes in a number of counts that fit
number_enabled : (c : Counts) → CountsFit c → plan_number (Ok c) / 2 ^ 16 % 2 ^ 16 ≡ c.enabled
number_enabled c fit = omega (arith, fit.shadows, fit.enabled, fit.passes)

number_passes : (c : Counts) → CountsFit c → plan_number (Ok c) % 2 ^ 16 ≡ c.passes
number_passes c fit = omega (arith, fit.shadows, fit.enabled, fit.passes)

-- counts that fit are read back
read_counts : (c : Counts) → CountsFit c → outcome_read (plan_number (Ok c)) ≡ Ok c
read_counts c fit =
    let n = plan_number (Ok c) in
    let shadows : n / 2 ^ 32 % 2 ^ 16 ≡ c.shadows = omega (arith, fit.shadows, fit.enabled, fit.passes) in
    simp (le-ltb n accepted_from (omega arith), shadows, number_enabled c fit, number_passes c fit)

-- a refusal's number is read back
read_refusal : (k : ℕ) → k ≤ 15 → outcome_read (plan_number (Err k)) ≡ Err k
read_refusal k small = simp (lt-ltb k accepted_from (omega arith))

module _ (file : List ℕ) (work plan : ℕ) where
  -- one of the lent buffers is too short
  abbrev short : Bool
  short = ltb work work_size || ltb plan plan_size

  -- a number of 2^48 or more is that of a job that was planned
  number_accepted
      : (a : Answer) → plan_answer file work plan ≡ a → accepted_from ≤ plan_number (outcome_of a) → (j : Job) × (plan_answer file work plan ≡ accepted j)
  number_accepted (accepted j) e large = (j, e)
  number_accepted (turned k) e large = absurd (omega (arith, admitted_small file short k e))

  -- the answer is read back
  answer_read : (a : Answer) → plan_answer file work plan ≡ a → outcome_read (plan_number (outcome_of a)) ≡ outcome_of a
  answer_read (accepted j) e = read_counts (counts_of j) (fit_admitted file short j e)
  answer_read (turned k) e = read_refusal k (admitted_small file short k e)

-- a caller sees by the number whether the job was planned, and reads back the rest
pub seen_by_number : SeenByNumber
seen_by_number =
    record {
      accepted_seen = λ file work plan. (
        λ large. number_accepted file work plan (plan_answer file work plan) refl large,
        λ a. subst (λ (x : Answer). accepted_from ≤ plan_number (outcome_of x)) (sym a.1) (omega arith),
      );
      read_back = λ file work plan. answer_read file work plan (plan_answer file work plan) refl;
    }

-- the watched points in the number are the total that was carried along
pub total_in_number : TotalInNumber
total_in_number file work plan j e =
    let fit = plan_counts_fit file work plan j e in
    let n = plan_number (outcome_of (plan_answer file work plan)) in
    let total : n / 2 ^ 16 % 2 ^ 16 ≡ (counts_of j).enabled = rw e (number_enabled (counts_of j) fit) in
    let passes : n % 2 ^ 16 ≡ (counts_of j).passes = rw e (number_passes (counts_of j) fit) in
    let stands = running_total.returned j (read_written file j (plan_answer_reads file work plan j e)).1.well_formed_holds in
    subst (Stands j (n % 2 ^ 16) 0 (plan_of j).plan) (sym total)
    (subst (λ (k : ℕ). Stands j k 0 (plan_of j).plan (counts_of j).enabled) (sym passes) stands)
