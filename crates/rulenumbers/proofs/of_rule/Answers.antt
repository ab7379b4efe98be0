-- `rulenumbers::of_rule` meets its contract: numbers of 16 bits are put in their fields without loss.
-- Assumes nothing.
use Rattle.std.specs.Prelude.{Result, Ok}
use mathlib.Core.Path.{sym, ap, subst}
use native.Mathlib.Omega.{arith}
use Rattle.ruleoutcome.specs.RuleCall.{rule_number}
use Rattle.rulenumbers.specs.Fits.{RuleFits}
use Rattle.reasons.specs.Reasons.{said_by}
use Rattle.ruleoutcome.specs.declared.rule.RuleNumbers.{RuleNumbers}
use Rattle.rulenumbers.proofs.of_rule.Goals as goal
use Rattle.rulenumbers.proofs.of_rule.Goals.{In-Ok}

-- the numbers have 16 bits, where the first of them is read
small : (g : _) (c : In-Ok g) → RuleFits (Ok c.in-Ok.numbers)
small g c = subst (λ (r : Result RuleNumbers g.row.E.Denot). RuleFits (said_by g.E.Reason.number r)) c.in-Ok.is c.requires

pub overflow_mul-result : goal.overflow_mul-result
overflow_mul-result g c = let few = small g (goal.at.overflow_mul-result g c).In-Ok in record { fits = omega (arith, few.0, few.1, few.2) }

pub overflow_add-result : goal.overflow_add-result
overflow_add-result g c = let few = small g (goal.at.overflow_add-result g c).In-Ok in record { fits = omega (arith, few.0, few.1, few.2) }

pub overflow_mul-result-in-Ok : goal.overflow_mul-result-in-Ok
overflow_mul-result-in-Ok g c = let few = small g (goal.at.overflow_mul-result-in-Ok g c).In-Ok in record { fits = omega (arith, few.0, few.1, few.2) }

pub overflow_add-result-in-Ok : goal.overflow_add-result-in-Ok
overflow_add-result-in-Ok g c = let few = small g (goal.at.overflow_add-result-in-Ok g c).In-Ok in record { fits = omega (arith, few.0, few.1, few.2) }

pub overflow_add-result-in-Ok-2 : goal.overflow_add-result-in-Ok-2
overflow_add-result-in-Ok-2 g c = let few = small g (goal.at.overflow_add-result-in-Ok-2 g c).In-Ok in record { fits = omega (arith, few.0, few.1, few.2) }

pub returns-in-Ok : goal.returns-in-Ok
returns-in-Ok g c = ap (λ (r : Result RuleNumbers g.row.E.Denot). rule_number (said_by g.E.Reason.number r)) (sym c.in-Ok.is)
