-- `pricereader::without_prices` meets its contract, in either case of the answer.
-- Assumes nothing.
use Rattle.std.specs.Prelude.{Result, ℕ}
use mathlib.Core.Path.{sym, ap}
use Rattle.reasons.specs.Reasons.{said_by}
use Rattle.pricelist.specs.PriceList.{unlisted}
use Rattle.pricereader.proofs.without_prices.Goals as goal

pub returns-in-Err : goal.returns-in-Err
returns-in-Err g c = ap (λ (r : Result ℕ g.row.E.Denot). unlisted (said_by g.E.Reason.number r)) (sym c.in-Err.is)
