-- `tariff::house_prices` meets its contract: the sixteen entries are those of the rule, computed once over the table.
-- Assumes nothing.
use mathlib.Core.Path.{refl}
use Rattle.pricing.specs.Pricing.{house_prices}
use Rattle.tariff.proofs.house_prices.Goals as goal

pub returns : goal.returns
unfolding house_prices
returns c = refl
