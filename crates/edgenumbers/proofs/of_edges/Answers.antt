-- `edgenumbers::of_edges` meets its contract: a count of at most 2,048 is added without loss.
-- Assumes nothing.
use Rattle.std.specs.Prelude.{Result, ℕ}
use mathlib.Core.Path.{sym, ap, subst}
use native.Mathlib.Omega.{arith}
use Rattle.arrivals.specs.Arrivals.{edge_number}
use Rattle.edgenumbers.specs.Fits.{EdgesFit}
use Rattle.reasons.specs.Reasons.{said_by}
use Rattle.edgenumbers.proofs.of_edges.Goals as goal

pub overflow_add-result : goal.overflow_add-result
overflow_add-result g c =
    let few = subst (λ (r : Result ℕ g.row.E.Denot). EdgesFit (said_by g.E.Reason.number r)) c.in-Ok.is c.requires in
    record { fits = omega (arith, few) }

pub returns-in-Ok : goal.returns-in-Ok
returns-in-Ok g c = ap (λ (r : Result ℕ g.row.E.Denot). edge_number (said_by g.E.Reason.number r)) (sym c.in-Ok.is)
