-- `pricecall::price_plan` meets its contract: the answer at the house prices.
-- Assumes nothing.
use Rattle.refusal.specs.Refusal.{said}
use Rattle.pricecall.proofs.PriceCallLaws.{house_fit, at_house}
use Rattle.pricecall.proofs.price_plan.Goals as goal

pub price_at-requires : goal.price_at-requires
price_at-requires c = house_fit c.house_prices-prices.result c.house_prices-prices.ensures

pub returns : goal.returns
returns c =
    let x = c.args in
    let house = c.house_prices-prices in
    at_house x.file.now x.plan.now x.volumes.now house.result (said c.price_at.result) house.ensures c.price_at.ensures
