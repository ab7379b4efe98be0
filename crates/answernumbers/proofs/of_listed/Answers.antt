-- `answernumbers::of_listed` meets its contract: a length of 16 bits is added without loss.
-- Assumes nothing.
use Rattle.std.specs.Prelude.{Result, ℕ}
use mathlib.Core.Path.{sym, ap, subst}
use native.Mathlib.Omega.{arith}
use Rattle.listoutcome.specs.ListCall.{list_number}
use Rattle.answernumbers.specs.Fits.{ListedFits}
use Rattle.reasons.specs.Reasons.{said_by}
use Rattle.answernumbers.proofs.of_listed.Goals as goal

pub overflow_add-result : goal.overflow_add-result
overflow_add-result g c =
    let few = subst (λ (r : Result ℕ g.row.E.Denot). ListedFits (said_by g.E.Reason.number r)) c.in-Ok.is c.requires in record { fits = omega (arith, few) }

pub returns-in-Ok : goal.returns-in-Ok
returns-in-Ok g c = ap (λ (r : Result ℕ g.row.E.Denot). list_number (said_by g.E.Reason.number r)) (sym c.in-Ok.is)
