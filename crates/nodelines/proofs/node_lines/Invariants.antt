-- `nodelines::node_lines` meets its contract.
-- Invariant: the first n lines pass, their nodes are stored, and sum is that of their entry sets.
-- Assumes nothing.
use Prim.Native.Nat.{◌≤◌}
use lib.ListN.{drop}
use Rattle.nodelines.proofs.NodesLaws.{NodesSoFar}
use Rattle.nodelines.proofs.node_lines.Given as goal

abbrev pub invariant-loop-n : goal.invariant-loop-n
invariant-loop-n l = (l.n ≤ l.nodes) × NodesSoFar l.states l.symbols (drop l.at l.file) l.initial.work l.work l.n l.sum
