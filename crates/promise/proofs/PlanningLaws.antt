-- What planning leaves, for the third promise: it accepts every job that a file can spell, and its plan bytes are those of the job's plan.
-- Assumes nothing.
use mathlib.Core.Path.{sym, subst}
use mathlib.Core.List.{List}
use Prim.Native.Nat.{ℕ}
use lib.ListN.{length}
use borrow.Author.Tests.{le-ltb}
use Rattle.events.specs.Form.{EventForm, FormMoves}
use Rattle.twomonitors.specs.Monitors.{AlarmsKept, PointsNeeded, CallsExist}
use Rattle.twomonitors.proofs.TwoMonitors.{plan_keeps_alarms}
use Rattle.jobfile.specs.File.{max_file}
use Rattle.jobfile.proofs.Longest.{longest_file}
use Rattle.jobfile.proofs.SpellableLaws.{accepted_written, accepted_well_formed}
use Rattle.buffer.specs.Buffer.{work_size}
use Rattle.admission.specs.Admission.{admitted}
use Rattle.planoutcome.specs.PlanCall.{plan_size}
use Rattle.planoutcome.proofs.PlanAfterLaws.{plan_answer_reads, plan_after_plan}
use Rattle.promise.specs.Promise.{PlanningAccepts, BothHalves}

-- every job that a file can spell is accepted
pub planning_accepts : PlanningAccepts
unfolding admitted
planning_accepts j file spelled alike plan size roomy large =
    simp (
      le-ltb max_file (length file) (longest_file.0 j file spelled alike),
      le-ltb size work_size large,
      le-ltb (length plan) plan_size roomy,
    )
    ((accepted_written file j).1 (alike, spelled))

-- both halves, in a form that moves as it must and has calls
pub both_halves : (f : EventForm) → FormMoves f → CallsExist f → BothHalves f
both_halves f form exist file plan size j e =
    let wf = accepted_well_formed file j (plan_answer_reads file size (length plan) j e) in
    subst (λ (p : List ℕ). AlarmsKept f j p × PointsNeeded f j p) (sym (plan_after_plan file plan size j e))
    (plan_keeps_alarms f form exist j wf)
