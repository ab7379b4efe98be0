-- `pricenumbers::of_price` meets its contract: cents of 48 bits are added without loss.
-- Assumes nothing.
use Rattle.std.specs.Prelude.{Result, ℕ}
use mathlib.Core.Path.{sym, ap, subst}
use native.Mathlib.Omega.{arith}
use Rattle.pricing.specs.Pricing.{price_number}
use Rattle.pricing.specs.Inner.{CentsFit}
use Rattle.reasons.specs.Reasons.{said_by}
use Rattle.pricenumbers.proofs.of_price.Goals as goal

pub overflow_add-result : goal.overflow_add-result
overflow_add-result g c =
    let few = subst (λ (r : Result ℕ g.row.E.Denot). CentsFit (said_by g.E.Reason.number r)) c.in-Ok.is c.requires in record { fits = omega (arith, few) }

pub returns-in-Ok : goal.returns-in-Ok
returns-in-Ok g c = ap (λ (r : Result ℕ g.row.E.Denot). price_number (said_by g.E.Reason.number r)) (sym c.in-Ok.is)
