-- The three slips and the worthless versions of planning are wrong on their trial jobs: the tests are computed, and say what is stated.
-- Assumes nothing.
use mathlib.Core.Path.{refl}
use mathlib.Core.List.{[], ◌∷◌}
use Rattle.laws.specs.Bounded.{all_below}
use Rattle.laws.specs.Bits.{has}
use Rattle.automaton.specs.Automaton.{cell, cells_below, well_formed}
use Rattle.job.specs.Plan.{alarms}
use Rattle.planning.specs.Planning.{all_enabled, passed, same_plan, passes_from, enabled_count}
use Rattle.job.specs.Search.{push_all, explore, reached, any_of, numbers_of, targets, silent_moves, told_moves, after_config, splits, starts_below, faithful, arrives, apart}
use Rattle.planning.specs.Trials.{pair, loop, turn, reopened}
use Rattle.planning.specs.Slips.{Slips}
use Rattle.job.proofs.Decide.{faithful_says, different_says}
use Rattle.planning.proofs.PlanningResult.{passed_relation}
use Rattle.job.proofs.WellFormedTest.{nodes_below, edges_below, well_formed_job, well_formed_job_lem}

-- the slips and the worthless versions are wrong
pub slips : Slips
unfolding cell cells_below well_formed nodes_below edges_below well_formed_job has all_below alarms passed same_plan passes_from enabled_count push_all explore reached any_of numbers_of targets silent_moves told_moves after_config splits starts_below faithful arrives apart
slips =
    let pair_well = well_formed_job_lem pair refl in
    let loop_well = well_formed_job_lem loop refl in
    let turn_well = well_formed_job_lem turn refl in
    record {
      nops_together = (refl, refl, (different_says pair_well (0 ∷ 0 ∷ 1 ∷ [])).0 refl);
      nop_in_loop = (refl, (different_says loop_well (0 ∷ 1 ∷ [])).0 refl);
      reopen_dropped = (refl, refl, (different_says (well_formed_job_lem reopened refl) (0 ∷ 1 ∷ [])).0 refl);
      more_enabled = ((faithful_says turn_well (0 ∷ 0 ∷ 1 ∷ [])).0 refl, (different_says turn_well (0 ∷ 1 ∷ 1 ∷ [])).0 refl);
      zeros = (different_says pair_well (0 ∷ 0 ∷ 0 ∷ [])).0 refl;
      all_enabled_holds = (refl, refl, refl, refl);
      pass_one_alone = (
        passed_relation (faithful loop) loop (faithful_says loop_well) 2 (all_enabled loop),
        (faithful_says loop_well (0 ∷ 0 ∷ [])).0 refl,
        refl,
      );
    }
