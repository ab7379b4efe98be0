-- The calls of the table are answered as they should be: the definitions are computed, row by row.
-- Assumes nothing.
use mathlib.Core.Path.{refl}
use Rattle.laws.specs.Bounded.{all_below, tab_from, tab}
use Rattle.job.specs.Job.{holds}
use Rattle.arrivals.specs.Arrivals.{edges_in, numbers_of, ascend_below, predecessors_of, arrivals, starts_of, with_edge, without_edge, fits, begins, is_fresh, is_held, becomes, relisted, counted, may_add, may_drop, added, dropped, indexed}
use Rattle.arrivalstrials.specs.ArrivalsTrials.{AllAnswered, done, ◌and◌, arrivals_trials}

-- all calls, in the order of the table
pub arrivals_trials_pass : AllAnswered arrivals_trials
unfolding arrivals_trials all_below tab_from tab holds edges_in numbers_of ascend_below predecessors_of arrivals starts_of with_edge without_edge fits begins is_fresh is_held becomes relisted counted may_add may_drop added dropped indexed
arrivals_trials_pass =
    record { number = refl; left = refl }
    and record { number = refl; left = refl }
    and record { number = refl; left = refl }
    and record { number = refl; left = refl }
    and record { number = refl; left = refl }
    and record { number = refl; left = refl }
    and record { number = refl; left = refl }
    and record { number = refl; left = refl }
    and record { number = refl; left = refl }
    and record { number = refl; left = refl }
    and record { number = refl; left = refl }
    and record { number = refl; left = refl }
    and record { number = refl; left = refl }
    and record { number = refl; left = refl }
    and record { number = refl; left = refl }
    and record { number = refl; left = refl }
    and record { number = refl; left = refl }
    and record { number = refl; left = refl }
    and record { number = refl; left = refl }
    and record { number = refl; left = refl }
    and record { number = refl; left = refl }
    and record { number = refl; left = refl }
    and record { number = refl; left = refl }
    and record { number = refl; left = refl }
    and record { number = refl; left = refl }
    and record { number = refl; left = refl }
    and record { number = refl; left = refl }
    and record { number = refl; left = refl }
    and record { number = refl; left = refl }
    and record { number = refl; left = refl }
    and record { number = refl; left = refl }
    and record { number = refl; left = refl }
    and record { number = refl; left = refl }
    and record { number = refl; left = refl }
    and record { number = refl; left = refl }
    and record { number = refl; left = refl }
    and record { number = refl; left = refl }
    and record { number = refl; left = refl }
    and record { number = refl; left = refl }
    and record { number = refl; left = refl }
    and record { number = refl; left = refl }
    and record { number = refl; left = refl }
    and record { number = refl; left = refl }
    and record { number = refl; left = refl }
    and record { number = refl; left = refl }
    and record { number = refl; left = refl }
    and record { number = refl; left = refl }
    and record { number = refl; left = refl }
    and record { number = refl; left = refl }
    and record { number = refl; left = refl }
    and record { number = refl; left = refl }
    and record { number = refl; left = refl }
    and record { number = refl; left = refl }
    and record { number = refl; left = refl }
    and record { number = refl; left = refl }
    and record { number = refl; left = refl }
    and record { number = refl; left = refl }
    and record { number = refl; left = refl }
    and record { number = refl; left = refl }
    and record { number = refl; left = refl }
    and record { number = refl; left = refl }
    and record { number = refl; left = refl }
    and record { number = refl; left = refl }
    and record { number = refl; left = refl }
    and record { number = refl; left = refl }
    and record { number = refl; left = refl }
    and record { number = refl; left = refl }
    and record { number = refl; left = refl }
    and record { number = refl; left = refl }
    and record { number = refl; left = refl }
    and record { number = refl; left = refl }
    and record { number = refl; left = refl }
    and record { number = refl; left = refl }
    and record { number = refl; left = refl }
    and record { number = refl; left = refl }
    and record { number = refl; left = refl }
    and record { number = refl; left = refl }
    and record { number = refl; left = refl }
    and record { number = refl; left = refl }
    and record { number = refl; left = refl }
    and record { number = refl; left = refl }
    and record { number = refl; left = refl }
    and record { number = refl; left = refl }
    and record { number = refl; left = refl }
    and record { number = refl; left = refl }
    and record { number = refl; left = refl }
    and record { number = refl; left = refl }
    and record { number = refl; left = refl }
    and record { number = refl; left = refl }
    and record { number = refl; left = refl }
    and record { number = refl; left = refl }
    and record { number = refl; left = refl }
    and record { number = refl; left = refl }
    and record { number = refl; left = refl }
    and record { number = refl; left = refl }
    and record { number = refl; left = refl }
    and record { number = refl; left = refl }
    and record { number = refl; left = refl }
    and record { number = refl; left = refl }
    and record { number = refl; left = refl }
    and record { number = refl; left = refl }
    and done
