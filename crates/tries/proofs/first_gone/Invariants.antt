-- `tries::first_gone` meets its contract.
-- Invariant: of the nodes before n none went.
-- Assumes nothing.
use Rattle.passes.proofs.GoneLaws.{NoneGone}
use Rattle.tries.proofs.first_gone.Given as goal

abbrev pub invariant-loop-n : goal.invariant-loop-n
invariant-loop-n l = NoneGone l.table l.finals l.states l.nodes l.n l.progress.enabled l.initial.work l.work
