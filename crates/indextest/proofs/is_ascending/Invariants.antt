-- `indextest::is_ascending` meets its contract.
-- Invariant: the edges before the index pass, and `least` is one more than the number of the last of them.
-- Assumes nothing.
use Rattle.indextest.proofs.AscendLaws.{Ascended}
use Rattle.indextest.proofs.is_ascending.Given as goal

abbrev pub invariant-loop-from : goal.invariant-loop-from
invariant-loop-from l = Ascended l.fn.nodes l.fn.edges l.from-index l.least
