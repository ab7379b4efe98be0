-- The bounds of the counts of a plan.
-- Assumes nothing.
use mathlib.Core.Path.{◌≡◌}
use mathlib.Core.Bool.{Bool}
use mathlib.Core.List.{List}
use Prim.Native.Nat.{ℕ, ◌≤◌}
use native.Mathlib.Omega.{arith}
use Rattle.job.specs.Job.{Job}
use Rattle.job.specs.Search.{faithful}
use Rattle.planning.specs.Listing.{plan_of}
use Rattle.planning.proofs.PlanningResult.{PlannedFits, planned_fits}
use Rattle.jobfile.specs.File.{accepted}
use Rattle.jobfile.proofs.SpellableLaws.{read_written}
use Rattle.tables.specs.Held.{JobHeld}
use Rattle.admission.specs.Admission.{admitted}
use Rattle.admission.proofs.AdmissionLaws.{admitted_spells}

-- of a job of at most 512 nodes: event nodes and watched points are at most 512, passes at most 513
pub counts_held
    : {j : Job} {l : List ℕ} {table : List (List ℕ)} {finals states nodes : ℕ} → nodes ≤ 512
    → JobHeld j l table finals states nodes → PlannedFits j (plan_of j)
counts_held {j} few h = planned_fits (faithful j) j (omega (arith, h.nodes_are))

-- of a job that was accepted
pub counts_admitted : (file : List ℕ) (short : Bool) (j : Job) → admitted file short ≡ accepted j → PlannedFits j (plan_of j)
counts_admitted file short j e =
    planned_fits (faithful j) j (read_written file j (admitted_spells file short j e)).1.few_nodes
