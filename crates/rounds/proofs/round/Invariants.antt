-- `rounds::round` meets its contract.
-- Invariant: every pair held follows the first ones, and rows that are not marked are closed if they were; within a node the rows looked at
-- are closed but for its edges, and `rows` has their pairs past the node, which the edges then get.
-- Measure: the nodes, and within a node the set of rows, still to be looked at.
-- Assumes nothing.
use Prim.Native.Nat.{◌-◌}
use mathlib.Core.Path.{◌≡◌}
use Rattle.rounds.specs.declared.Seen.TheVariants.{Rows}
use Rattle.rounds.proofs.RoundLaws.{RowsSoFar}
use Rattle.rounds.proofs.RoundLaws.{RoundSoFar}
use Rattle.rounds.proofs.round.Given as goal

abbrev pub invariant-loop-rest : goal.invariant-loop-rest
invariant-loop-rest l =
    (l.seen ≡ Rows) × RowsSoFar l.table l.finals l.states l.nodes l.initial.work l.work l.n l.initial.rest l.rest l.rows

abbrev pub decreases-loop-rest : goal.decreases-loop-rest
decreases-loop-rest l = l.rest

abbrev pub invariant-search : goal.invariant-search
invariant-search l = RoundSoFar l.table l.finals l.states l.nodes l.initial.work l.work l.n l.seen

abbrev pub decreases-search : goal.decreases-search
decreases-search l = l.nodes - l.n
