-- `beforestore::store_before` meets its contract.
-- Invariant: the before sets of the nodes before n are stored.
-- Assumes nothing.
use Rattle.found.proofs.FoundLaws.{StoredSoFar}
use Rattle.beforestore.proofs.store_before.Given as goal

abbrev pub invariant-loop-n : goal.invariant-loop-n
invariant-loop-n l = StoredSoFar l.initial.work l.work l.states l.n
