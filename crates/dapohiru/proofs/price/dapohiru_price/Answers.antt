-- `dapohiru::price::dapohiru_price` meets its contract: the number of the answer, whose cents fit.
-- Assumes nothing.
use Rattle.refusal.specs.Refusal.{said}
use mathlib.Core.Path.{sym, ap, subst, ◌∙◌}
use Rattle.reasons.proofs.ReasonsLaws.{said_by_reason}
use Rattle.pricing.specs.Inner.{CentsFit}
use Rattle.pricing.specs.Pricing.{price_number}
use Rattle.dapohiru.proofs.FitsLaws.{price_fits}
use Rattle.dapohiru.proofs.price.dapohiru_price.Goals as goal

pub of_price-requires : goal.of_price-requires
of_price-requires c =
    let x = c.args in
    subst CentsFit (sym (said_by_reason c.price_plan.result)) (price_fits x.job.now x.plan.now x.volumes.now (said c.price_plan.result) c.price_plan.ensures)

pub returns : goal.returns
returns c = c.of_price.ensures ∙ ap price_number (said_by_reason c.price_plan.result ∙ c.price_plan.ensures)
