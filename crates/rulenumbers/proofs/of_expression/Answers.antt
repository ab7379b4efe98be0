-- `rulenumbers::of_expression` meets its contract: numbers of 16 bits are put in their fields without loss.
-- Assumes nothing.
use Rattle.std.specs.Prelude.{Result, Ok}
use mathlib.Core.Path.{sym, ap, subst}
use native.Mathlib.Omega.{arith}
use Rattle.expressionrule.specs.ExpressionRule.{expression_number}
use Rattle.rulenumbers.specs.Fits.{ExpressionFits}
use Rattle.reasons.specs.Reasons.{said_by}
use Rattle.expressionrule.specs.declared.answer.Met.{Met}
use Rattle.rulenumbers.proofs.of_expression.Goals as goal
use Rattle.rulenumbers.proofs.of_expression.Goals.{In-Ok}

-- the numbers have 16 bits, where the first of them is read
small : (g : _) (c : In-Ok g) → ExpressionFits (Ok c.in-Ok.met)
small g c = subst (λ (r : Result Met g.row.E.Denot). ExpressionFits (said_by g.E.Reason.number r)) c.in-Ok.is c.requires

pub overflow_mul-result : goal.overflow_mul-result
overflow_mul-result g c = let few = small g (goal.at.overflow_mul-result g c).In-Ok in record { fits = omega (arith, few.0, few.1) }

pub overflow_add-result : goal.overflow_add-result
overflow_add-result g c = let few = small g (goal.at.overflow_add-result g c).In-Ok in record { fits = omega (arith, few.0, few.1) }

pub overflow_add-result-in-Ok : goal.overflow_add-result-in-Ok
overflow_add-result-in-Ok g c = let few = small g (goal.at.overflow_add-result-in-Ok g c).In-Ok in record { fits = omega (arith, few.0, few.1) }

pub returns-in-Ok : goal.returns-in-Ok
returns-in-Ok g c = ap (λ (r : Result Met g.row.E.Denot). expression_number (said_by g.E.Reason.number r)) (sym c.in-Ok.is)
