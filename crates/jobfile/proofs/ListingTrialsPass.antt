-- The table of listings is printed as it should be: the definitions are computed, row by row.
-- Assumes nothing.
use mathlib.Core.Path.{refl}
use Rattle.laws.specs.Bounded.{all_below, sum_below}
use Rattle.laws.specs.Bits.{has}
use Rattle.automaton.specs.Automaton.{cell}
use Rattle.planning.specs.Planning.{passed, same_plan, passes_from, enabled_count}
use Rattle.planning.specs.Listing.{lines_from, listing_of}
use Rattle.job.specs.Found.{set_of}
use Rattle.job.specs.Search.{push_all, explore, reached, any_of, numbers_of, targets, silent_moves, told_moves, after_config, splits, starts_below, faithful, arrives, apart}
use Rattle.lines.specs.Line.{decimal, field, fields, digits_of, field_of, fields_of, line_of}
use Rattle.lines.specs.Lines.{lines_of}
use Rattle.jobfile.specs.File.{finals_of, some_entry, read_rest, read_job}
use Rattle.jobfile.specs.ListingLines.{shadows_bytes, listing_bytes}
use Rattle.jobfile.specs.ListingTrials.{AllPrinted, done, ◌and◌, listing_trials}

-- all listings, in the order of the table
pub listing_trials_pass : AllPrinted listing_trials
unfolding listing_trials all_below sum_below has cell set_of passed same_plan passes_from enabled_count lines_from listing_of push_all explore reached any_of numbers_of targets silent_moves told_moves after_config splits starts_below faithful arrives apart decimal field fields digits_of field_of fields_of line_of lines_of finals_of some_entry read_rest read_job shadows_bytes listing_bytes
listing_trials_pass = refl and refl and refl and refl and refl and refl and done
