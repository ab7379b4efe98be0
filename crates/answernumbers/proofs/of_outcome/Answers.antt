-- `answernumbers::of_outcome` meets its contract: counts of 16 bits are put in their fields without loss.
-- Assumes nothing.
use Rattle.std.specs.Prelude.{Result}
use mathlib.Core.Path.{sym, ap, subst}
use native.Mathlib.Omega.{arith}
use Rattle.planoutcome.specs.PlanCall.{plan_number}
use Rattle.answernumbers.specs.Fits.{OutcomeFits}
use Rattle.reasons.specs.Reasons.{said_by}
use Rattle.passes.specs.declared.passes.Counts.{Counts}
use Rattle.answernumbers.proofs.of_outcome.Goals as goal

pub overflow_mul-result : goal.overflow_mul-result
overflow_mul-result g c = let few = subst (λ (r : Result Counts g.row.E.Denot). OutcomeFits (said_by g.E.Reason.number r)) c.in-Ok.is c.requires in record { fits = omega (arith, few.0, few.1, few.2) }

pub overflow_add-result : goal.overflow_add-result
overflow_add-result g c = let few = subst (λ (r : Result Counts g.row.E.Denot). OutcomeFits (said_by g.E.Reason.number r)) c.in-Ok.is c.requires in record { fits = omega (arith, few.0, few.1, few.2) }

pub overflow_mul-result-in-Ok : goal.overflow_mul-result-in-Ok
overflow_mul-result-in-Ok g c = let few = subst (λ (r : Result Counts g.row.E.Denot). OutcomeFits (said_by g.E.Reason.number r)) c.in-Ok.is c.requires in record { fits = omega (arith, few.0, few.1, few.2) }

pub overflow_add-result-in-Ok : goal.overflow_add-result-in-Ok
overflow_add-result-in-Ok g c = let few = subst (λ (r : Result Counts g.row.E.Denot). OutcomeFits (said_by g.E.Reason.number r)) c.in-Ok.is c.requires in record { fits = omega (arith, few.0, few.1, few.2) }

pub overflow_add-result-in-Ok-2 : goal.overflow_add-result-in-Ok-2
overflow_add-result-in-Ok-2 g c = let few = subst (λ (r : Result Counts g.row.E.Denot). OutcomeFits (said_by g.E.Reason.number r)) c.in-Ok.is c.requires in record { fits = omega (arith, few.0, few.1, few.2) }

pub returns-in-Ok : goal.returns-in-Ok
returns-in-Ok g c = ap (λ (r : Result Counts g.row.E.Denot). plan_number (said_by g.E.Reason.number r)) (sym c.in-Ok.is)
