-- The plans of the table are priced as they should be: the definitions are computed, row by row.
-- Assumes nothing.
use mathlib.Core.Path.{refl}
use Rattle.laws.specs.Bounded.{all_below, sum_below, tab}
use Rattle.laws.specs.Bits.{has}
use Rattle.lines.specs.Line.{digits_of, field_of, fields_of, line_of}
use Rattle.lines.specs.Lines.{lines_of}
use Rattle.jobfile.specs.File.{finals_of, some_entry, read_rest, read_job}
use Rattle.pricing.specs.Numbered.{column_in}
use Rattle.pricing.specs.Pricing.{house_prices, priced_job, priced_at}
use Rattle.pricelist.specs.PriceList.{priced_by}
use Rattle.pricelist.specs.PriceListTrials.{AllPricedBy, done, ◌and◌, own_trials}

-- all plans, in the order of the table
pub own_trials_pass : AllPricedBy own_trials
unfolding own_trials all_below sum_below tab has digits_of field_of fields_of line_of lines_of finals_of some_entry read_rest read_job column_in house_prices priced_job priced_at priced_by
own_trials_pass =
    refl and refl and refl
    and refl and refl and refl
    and refl and refl and refl
    and refl
    and refl
    and refl
    and refl and refl and refl and refl and refl and refl
    and refl and refl and refl and refl and refl and refl and refl and refl and refl
    and refl and refl and refl and refl and refl and done
