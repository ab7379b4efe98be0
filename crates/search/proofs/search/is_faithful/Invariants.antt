-- `search::search::is_faithful` meets its contract.
-- Invariant: every pair held is reached, the starts are held, and every row that is not marked is closed.
-- Measure: what is left to the search, less where what comes back makes a row grow.
-- Assumes nothing.
use Rattle.tables.specs.Tables.{pairs_left}
use Rattle.search.proofs.SearchLaws.{Searching}
use Rattle.search.proofs.search.is_faithful.Given as goal

abbrev pub invariant-loop-finals : goal.invariant-loop-finals
invariant-loop-finals l = Searching l.table l.finals l.states l.nodes l.initial.work l.work

abbrev pub decreases-loop-finals : goal.decreases-loop-finals
decreases-loop-finals l = pairs_left l.work
