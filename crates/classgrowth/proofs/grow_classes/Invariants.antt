-- `classgrowth::grow_classes` meets its contract.
-- Invariant: the class rows hold what some continuation tells apart; they are closed where the last turn grew none.
-- Measure: the room in the class rows and one more; nothing where the last turn grew none.
-- Assumes nothing.
use Rattle.classes.proofs.GrownLaws.{rank}
use Rattle.classes.proofs.ClassLaws.{GrowingClasses}
use Rattle.buffer.specs.ClassRows.{apart_left}
use Rattle.classgrowth.proofs.grow_classes.Given as goal

abbrev pub invariant-loop-grown : goal.invariant-loop-grown
invariant-loop-grown l = GrowingClasses l.table l.finals l.states l.nodes l.initial.work l.work l.grown

abbrev pub decreases-loop-grown : goal.decreases-loop-grown
decreases-loop-grown l = rank l.grown (apart_left l.work)
