-- `classgrowth::class_round` meets its contract.
-- Invariant: the nodes from n on were grown once, and `grown` of their rows grew.
-- Assumes nothing.
use Rattle.classes.proofs.ClassLaws.{RoundSoFar}
use Rattle.classgrowth.proofs.class_round.Given as goal

abbrev pub invariant-loop-n : goal.invariant-loop-n
invariant-loop-n l = RoundSoFar l.table l.finals l.states l.nodes l.initial.work l.work l.grown l.n
