-- `marks::next_marked` meets its contract.
-- Invariant: no node from the first up to `next` has marks.
-- Assumes nothing.
use Rattle.tables.proofs.TableLaws.{Unmarked}
use Rattle.marks.proofs.next_marked.Given as goal

abbrev pub invariant-loop-next : goal.invariant-loop-next
invariant-loop-next l = Unmarked l.work l.n l.nodes l.next
