-- The moments of the trial jobs: plans and totals are computed by passes, and planning stands there.
-- Assumes nothing.
use mathlib.Core.Path.{◌≡◌, refl, sym}
use mathlib.Core.Bool.{true}
use lib.Dec.{leb}
use lib.ListN.{length}
use borrow.Author.Tests.{leb-true}
use Rattle.laws.specs.Bounded.{all_below, sum_below}
use Rattle.laws.specs.Bits.{has}
use Rattle.automaton.specs.Automaton.{cell, cells_below, well_formed}
use Rattle.planning.specs.Planning.{passed, enabled_count}
use Rattle.job.specs.Search.{push_all, explore, reached, any_of, numbers_of, targets, silent_moves, told_moves, after_config, splits, starts_below, faithful}
use Rattle.job.proofs.WellFormedTest.{nodes_below, edges_below, well_formed_job, well_formed_job_lem}
use Rattle.passes.specs.Running.{Stands}
use Rattle.passes.specs.RunningTrials.{Moment, AllStand, done, ◌and◌, moments}
use Rattle.passes.proofs.RunningLaws.{stands_at, plan_over, plan_at, stands_where}

-- a row, by what its plan and its total compute to
row
    : {m : Moment} → well_formed_job m.job ≡ true → leb m.nodes (length m.job.nodes) ≡ true
    → plan_at m.job m.passes m.nodes ≡ m.plan → enabled_count m.plan ≡ m.total
    → Stands m.job m.passes m.nodes m.plan m.total
row {m} wf l e c =
    stands_at (sym e) (sym c) (stands_where m.job (well_formed_job_lem m.job wf) m.passes m.nodes (leb-true _ _ l))

-- all moments, in the order of the table
pub moments_stand : AllStand moments
unfolding cell cells_below well_formed nodes_below edges_below well_formed_job has all_below sum_below plan_over passed enabled_count push_all explore reached any_of numbers_of targets silent_moves told_moves after_config splits starts_below faithful
moments_stand =
    row refl refl refl refl and row refl refl refl refl and row refl refl refl refl and row refl refl refl refl
    and row refl refl refl refl and row refl refl refl refl and row refl refl refl refl
    and row refl refl refl refl and row refl refl refl refl and row refl refl refl refl and row refl refl refl refl
    and row refl refl refl refl and row refl refl refl refl and row refl refl refl refl
    and row refl refl refl refl and row refl refl refl refl and row refl refl refl refl
    and row refl refl refl refl and row refl refl refl refl and row refl refl refl refl and row refl refl refl refl
    and row refl refl refl refl and row refl refl refl refl and row refl refl refl refl and row refl refl refl refl
    and row refl refl refl refl and row refl refl refl refl
    and done
