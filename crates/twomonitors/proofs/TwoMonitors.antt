-- Both halves of the third promise in any form that moves as it must and has calls: the plan that planning makes has the alarms of the full
-- monitor, and each watched point is needed.
-- Assumes nothing.
use mathlib.Core.Path.{◌≡◌}
use mathlib.Core.Bool.{true}
use Prim.Native.Nat.{ℕ}
use lib.ListN.{set}
use Rattle.events.specs.Form.{EventForm, FormMoves}
use Rattle.job.specs.Job.{Job, WellFormedJob}
use Rattle.job.specs.Plan.{enables, Different}
use Rattle.job.specs.Search.{faithful}
use Rattle.planning.specs.Listing.{plan_of}
use Rattle.twomonitors.specs.Monitors.{CallsExist, TwoMonitors}
use Rattle.job.proofs.Decide.{faithful_says, different_says}
use Rattle.planning.proofs.PlanningResult.{plan_faithful, planned_needs}
use Rattle.twomonitors.proofs.MonitorsLaws.{faithful_kept, different_told}

-- each point that planning leaves watched is needed, with the walk that shows it
pub needed_with_walk
    : (j : Job) → WellFormedJob j → (n : ℕ) → enables (plan_of j).plan n ≡ true → Different j (enables (set (plan_of j).plan n 0))
needed_with_walk j wf n e = (different_says wf _).0 (planned_needs (faithful j) j n e)

-- both halves
pub plan_keeps_alarms : (f : EventForm) → FormMoves f → CallsExist f → (j : Job) → TwoMonitors f j
plan_keeps_alarms f form exist j wf = (
  faithful_kept f form j (plan_of j).plan wf (plan_faithful (faithful j) j (faithful_says wf)),
  λ n h e. different_told f form j (set (plan_of j).plan n 0) wf exist (needed_with_walk j wf n e),
)
