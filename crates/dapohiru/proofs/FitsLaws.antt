-- Every answer of planning, of listing, of pricing, of the calls for a rule and of those on edges has a number of 64 bits: the counts are at most
-- 513, a listing fits its buffer, a price is at most the largest, a rule has at most sixteen states and symbols, and there are at most 2,048 edges.
-- Assumes nothing.
use Rattle.std.specs.Prelude.{Result, Ok, Err}
use mathlib.Core.Path.{◌≡◌, refl, sym, subst}
use mathlib.Core.Logic.{inl, inr}
use mathlib.Core.Bool.{Bool}
use mathlib.Core.List.{List}
use Prim.Native.Nat.{ℕ}
use native.Mathlib.Omega.{arith}
use lib.ListN.{length}
use Rattle.admission.specs.Admission.{admitted}
use Rattle.planoutcome.specs.PlanCall.{outcome_of}
use Rattle.planoutcome.proofs.PlanAfterLaws.{counts_fit}
use Rattle.listoutcome.specs.ListCall.{listed_of}
use Rattle.listoutcome.proofs.ListSays.{length_few}
use Rattle.pricing.specs.Pricing.{priced}
use Rattle.pricing.specs.Inner.{CentsFit}
use Rattle.pricing.proofs.LargestPrice.{price_at_most}
use Rattle.pricelist.specs.PriceList.{priced_by}
use Rattle.pricelist.proofs.PriceListSays.{own_price_at_most}
use Rattle.answernumbers.specs.Fits.{OutcomeFits, ListedFits}
use Rattle.jobfile.specs.File.{Answer, accepted, turned}
use Rattle.ruleoutcome.specs.RuleCall.{rule_answer, ruled_of}
use Rattle.ruleoutcome.proofs.RuleLaws.{rule_well_formed, finals_few}
use Rattle.automaton.specs.Made.{Made, makes, refuses}
use Rattle.expressionrule.specs.ExpressionRule.{ExpressionMakes, expression_answer, AnswersExpression}
use Rattle.expressionrule.proofs.ExpressionServe.{made_fits}
use Rattle.rulenumbers.specs.Fits.{RuleFits, ExpressionFits}
use Rattle.arrivals.specs.ArrivalsSay.{Told}
use Rattle.edgenumbers.specs.Fits.{EdgesFit}
use Rattle.passes.specs.declared.passes.Counts.{Counts}
use Rattle.expressionrule.specs.declared.answer.Met.{Met}
use Rattle.ruleoutcome.specs.declared.rule.RuleNumbers.{RuleNumbers}

-- of planning
pub outcome_fits : (file : List ℕ) (short : Bool) (r : Result Counts ℕ) → r ≡ outcome_of (admitted file short) → OutcomeFits r
outcome_fits file short (Ok c) e =
    let fit = counts_fit file short c e in
    (omega (arith, fit.shadows), omega (arith, fit.enabled, fit.shadows), omega (arith, fit.passes))
outcome_fits file short (Err k) e = tt

-- of listing
pub listed_fits : (file : List ℕ) (short : Bool) (r : Result ℕ ℕ) → r ≡ listed_of (admitted file short) → ListedFits r
listed_fits file short (Ok n) e = omega (arith, length_few file short n e)
listed_fits file short (Err k) e = tt

-- of pricing
pub price_fits : (file plan volumes : List ℕ) (r : Result ℕ ℕ) → r ≡ priced file plan volumes → CentsFit r
price_fits file plan volumes (Ok c) e = omega (arith, price_at_most file plan volumes c (sym e))
price_fits file plan volumes (Err k) e = tt

-- and of pricing by a price file
pub own_price_fits : (file plan volumes prices : List ℕ) (r : Result ℕ ℕ) → r ≡ priced_by file plan volumes prices → CentsFit r
own_price_fits file plan volumes prices (Ok c) e = omega (arith, own_price_at_most file plan volumes prices c (sym e))
own_price_fits file plan volumes prices (Err k) e = tt

-- of the rule call
pub rule_fits : (file : List ℕ) (work rule : ℕ) (r : Result RuleNumbers ℕ) → r ≡ ruled_of (rule_answer file work rule) → RuleFits r
rule_fits file work rule r e = subst RuleFits (sym e) (go (rule_answer file work rule) refl)
  where
    go : (a : Answer) → rule_answer file work rule ≡ a → RuleFits (ruled_of a)
    go (accepted j) is =
        let wf = rule_well_formed file work rule j is in
        (omega (arith, wf.few_states), omega (arith, wf.few_symbols), finals_few j.rule wf)
    go (turned k) is = tt

-- of the call for an expression
pub expression_fits
    : (t : List ℕ) (a : ℕ) (before after : List ℕ) (r : Result Met ℕ) → AnswersExpression t a before after r → ExpressionFits r
expression_fits t a before after r x = subst ExpressionFits (sym x.answer) (go x.made x.makes)
  where
    go : (y : Made) → ExpressionMakes t a (length before) y → ExpressionFits (expression_answer y)
    go (makes m) z = let (few, small) = made_fits t a (length before) m z in (omega (arith, few), small)
    go (refuses k) z = tt

-- of the calls on edges
pub edges_fit : (r : Result ℕ ℕ) → Told r → EdgesFit r
edges_fit r (inl e) = subst EdgesFit (sym e) tt
edges_fit r (inr (m, few, e)) = subst EdgesFit (sym e) few
