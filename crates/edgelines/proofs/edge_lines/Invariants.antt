-- `edgelines::edge_lines` meets its contract.
-- Invariant: the first e lines pass and their targets are stored; `next` is one more than the key of the last; the starts of the nodes up to its
-- source are stored.
-- Assumes nothing.
use Prim.Native.Nat.{◌≤◌}
use lib.ListN.{drop}
use Rattle.edgelines.proofs.EdgesLaws.{EdgesSoFar}
use Rattle.edgelines.proofs.edge_lines.Given as goal

abbrev pub invariant-loop-e : goal.invariant-loop-e
invariant-loop-e l = (l.e ≤ l.edges) × EdgesSoFar l.nodes (drop l.at l.file) l.initial.work l.work l.next l.done l.e
