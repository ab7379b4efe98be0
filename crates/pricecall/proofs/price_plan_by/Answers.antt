-- `pricecall::price_plan_by` meets its contract: the answer at the prices that were read, or 28 in place of a price.
-- Assumes nothing.
use Rattle.refusal.specs.Refusal.{said}
use mathlib.Core.Path.{sym, ap, ◌∙◌}
use Rattle.reasons.proofs.ReasonsLaws.{said_by_reason}
use Rattle.pricelist.specs.PriceList.{unlisted}
use Rattle.pricecall.proofs.PriceCallLaws.{none_fit, by_list, by_none}
use Rattle.pricecall.proofs.price_plan_by.Goals as goal

pub read_prices-listed-requires : goal.read_prices-listed-requires
read_prices-listed-requires c = none_fit

pub price_at-price-requires : goal.price_at-price-requires
price_at-price-requires c = c.read_prices-listed.ensures.fits.fit

pub returns-then-listed : goal.returns-then-listed
returns-then-listed c =
    let x = c.args in
    let read = c.read_prices-listed in
    by_list x.file.now x.plan.now x.volumes.now x.prices.now read.new.prices read.result (said c.price_at-price.result) read.ensures
    c.if-listed.true c.price_at-price.ensures

pub returns : goal.returns
returns c =
    let x = c.args in
    let read = c.read_prices-listed in
    sym (said_by_reason c.without_prices.result)
    ∙ c.without_prices.ensures
    ∙ ap unlisted (said_by_reason c.price_at-price.result)
    ∙ by_none x.file.now x.plan.now x.volumes.now x.prices.now read.new.prices read.result (said c.price_at-price.result)
    read.ensures c.if-listed.false c.price_at-price.ensures
