-- `tries::last_gone` meets its contract.
-- Invariant: the nodes from `progress.last` on to before n were tried, and `last` is one past the last of them that went.
-- Assumes nothing.
use Rattle.passes.proofs.GoneLaws.{LastSoFar}
use Rattle.tries.proofs.last_gone.Given as goal

abbrev pub invariant-loop-n : goal.invariant-loop-n
invariant-loop-n l =
    LastSoFar l.table l.finals l.states l.nodes (record { enabled = l.initial.total; last = l.initial.last }) l.n l.initial.work l.work l.total l.last
