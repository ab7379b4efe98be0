-- `passmaking::passes` meets its contract.
-- Invariant: planning ends where it ends from the plan as it stands, with the passes made counted; once a pass changed nothing it has ended.
-- Measure: the watched points that are left, and one pass more; nothing once a pass changed nothing.
-- Assumes nothing.
use native.Mathlib.Omega.{arith}
use Rattle.passes.proofs.PlanInLaws.{usable_kept}
use Rattle.passes.proofs.PassMadeLaws.{count_bounded, passing_start, passing_more, passes_left_falls, passing_end}
use Rattle.passmaking.proofs.passes.Goals as goal

pub loop-progress-init : goal.loop-progress-init
loop-progress-init c = let p = c.requires in passing_start _ p.0 p.1.1

pub pass-progress-requires : goal.pass-progress-requires
pass-progress-requires c =
    let g = c.loop-progress.invariant in
    let p = c.requires in
    (g.within, (usable_kept g.kept p.1.0, g.carried))

pub overflow_add-count : goal.overflow_add-count
overflow_add-count c =
    let a = c.args in
    let p = c.requires in
    let known = c.slice_known-1 in
    let l = c.loop-progress in
    let bounded = count_bounded a.work.now a.nodes p.1.0.long p.1.0.few_nodes (λ i h. omega (arith, known.given i)) in
    omega (arith, bounded, p.1.1, l.invariant.few (λ e. omega arith))

pub loop-progress-smaller : goal.loop-progress-smaller
loop-progress-smaller c = passes_left_falls (λ e. omega arith) c.pass-progress.ensures

pub loop-progress-preserved : goal.loop-progress-preserved
loop-progress-preserved c =
    let u = c.requires.1.0 in
    let l = c.loop-progress in
    passing_more u (λ e. omega arith) l.invariant c.pass-progress.ensures

pub shape_of-work : goal.shape_of-work
shape_of-work c = c.loop-progress.invariant.kept.long

pub returns : goal.returns
returns c = passing_end (omega arith) c.loop-progress.invariant
