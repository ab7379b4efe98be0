-- `search::search::differs` meets its contract.
-- Invariant: the rounds so far are one round without a difference.
-- Measure: what is left to the search, less after a round that sees rows.
-- Assumes nothing.
use Rattle.tables.specs.Tables.{pairs_left}
use Rattle.search.proofs.RoundsLaws.{RoundsSoFar}
use Rattle.search.proofs.search.differs.Given as goal

abbrev pub invariant-loop : goal.invariant-loop
invariant-loop l = RoundsSoFar l.table l.finals l.states l.nodes l.initial.work l.work

abbrev pub decreases-loop : goal.decreases-loop
decreases-loop l = pairs_left l.work
