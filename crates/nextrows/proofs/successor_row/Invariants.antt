-- `nextrows::successor_row` meets its contract.
-- Invariant: `out` has the states told apart before the ends of the edges below i.
-- Assumes nothing.
use Rattle.classes.proofs.ClassLaws.{NextSoFar}
use Rattle.nextrows.proofs.successor_row.Given as goal

abbrev pub invariant-loop-i : goal.invariant-loop-i
invariant-loop-i l = NextSoFar l.table l.finals l.states l.work l.n l.p l.i l.out
