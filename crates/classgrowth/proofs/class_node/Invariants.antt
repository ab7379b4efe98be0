-- `classgrowth::class_node` meets its contract.
-- Invariant: the rows of node n below p were joined, and `grown` of them grew.
-- Assumes nothing.
use Rattle.classes.proofs.GrownLaws.{RowsGrown}
use Rattle.classes.proofs.ClassLaws.{ApartIn, BackPairs}
use Rattle.classgrowth.proofs.class_node.Given as goal

abbrev pub invariant-loop-p : goal.invariant-loop-p
invariant-loop-p l =
    RowsGrown ApartIn (BackPairs l.table l.finals l.states l.initial.work l.n l.set) l.initial.work l.work l.n l.grown l.p
