-- The table of trial jobs passes, row by row: listings and plans are computed, and what is said of a plan comes from the computed test
-- by what that test says.
-- Assumes nothing.
use mathlib.Core.Path.{◌≡◌, refl}
use mathlib.Core.Bool.{true, false}
use Rattle.laws.specs.Bounded.{all_below, sum_below}
use Rattle.laws.specs.Bits.{has}
use Rattle.automaton.specs.Automaton.{cell, cells_below, well_formed}
use Rattle.job.specs.Job.{Job, WellFormedJob}
use Rattle.planning.specs.Planning.{passed, same_plan, passes_from, enabled_count}
use Rattle.planning.specs.Listing.{plan_of, lines_from, listing_of}
use Rattle.job.specs.Found.{set_of}
use Rattle.job.specs.Search.{push_all, explore, reached, any_of, numbers_of, targets, silent_moves, told_moves, after_config, splits, starts_below, faithful, arrives, apart}
use Rattle.planning.specs.Trials.{Asked, lists, plans, checks, Trial, Answers, TrialPasses, AllPass, done, ◌and◌, trials}
use Rattle.job.proofs.Decide.{faithful_says, different_says}
use Rattle.job.proofs.WellFormedTest.{nodes_below, edges_below, well_formed_job, well_formed_job_lem}

-- what is computed for an answer: a listing, a plan, or the test of a plan
abbrev Computes : Job → Asked → Type 0
Computes j (lists shadows t) = listing_of j ≡ record { shadows = shadows; total = t }
Computes j (plans plan passes) = plan_of j ≡ record { plan = plan; passes = passes }
Computes j (checks plan answer) = faithful j plan ≡ answer

-- it is the answer of the definitions
computed_answers : {j : Job} → WellFormedJob j → (asked : Asked) → Computes j asked → Answers j asked
computed_answers wf (lists shadows t) e = e
computed_answers wf (plans plan passes) e = e
computed_answers wf (checks plan true) e = (faithful_says wf plan).0 e
computed_answers wf (checks plan false) e = (different_says wf plan).0 e

-- a row, by what its job and its answer compute to
row : {t : Trial} → well_formed_job t.job ≡ true → Computes t.job t.asked → TrialPasses t
row {t} h e =
    let wf = well_formed_job_lem t.job h in
    record { well_formed_holds = wf; answer = computed_answers wf t.asked e }

-- all trial jobs, in the order of the table
pub trials_pass : AllPass trials
unfolding cell cells_below well_formed nodes_below edges_below well_formed_job has all_below sum_below set_of passed same_plan passes_from enabled_count lines_from listing_of push_all explore reached any_of numbers_of targets silent_moves told_moves after_config splits starts_below faithful arrives apart
trials_pass =
    row refl refl and row refl refl and row refl refl and row refl refl
    and row refl refl and row refl refl
    and row refl refl and row refl refl and row refl refl
    and row refl refl and row refl refl
    and row refl refl
    and row refl refl
    and row refl refl
    and row refl refl
    and row refl refl
    and row refl refl
    and row refl refl
    and row refl refl
    and row refl refl
    and row refl refl
    and row refl refl
    and row refl refl
    and row refl refl
    and row refl refl
    and row refl refl
    and row refl refl
    and row refl refl
    and row refl refl
    and row refl refl
    and row refl refl
    and row refl refl
    and row refl refl
    and row refl refl
    and row refl refl
    and row refl refl
    and row refl refl
    and row refl refl
    and row refl refl
    and row refl refl
    and row refl refl
    and row refl refl
    and row refl refl
    and row refl refl
    and row refl refl
    and row refl refl
    and row refl refl
    and row refl refl
    and row refl refl
    and row refl refl
    and row refl refl
    and row refl refl
    and row refl refl
    and row refl refl
    and row refl refl
    and row refl refl
    and row refl refl
    and row refl refl
    and row refl refl
    and row refl refl
    and done
