-- `passmaking::passes` meets its contract.
-- Invariant: planning ends where it ends from the plan as it stands, with the passes made counted; once a pass changed nothing it has ended.
-- Measure: the watched points that are left, and one pass more; nothing once a pass changed nothing.
-- Assumes nothing.
use Rattle.passes.proofs.PassMadeLaws.{Passing, passes_left}
use Rattle.passmaking.proofs.passes.Given as goal

abbrev pub invariant-loop-progress : goal.invariant-loop-progress
invariant-loop-progress l =
    Passing l.table l.finals l.states l.nodes l.initial.work l.work l.shadows l.progress l.count

abbrev pub decreases-loop-progress : goal.decreases-loop-progress
decreases-loop-progress l = passes_left l.progress.last l.progress.enabled
