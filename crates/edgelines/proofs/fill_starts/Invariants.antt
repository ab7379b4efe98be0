-- `edgelines::fill_starts` meets its contract.
-- Invariant: the starts from a up to j are v, and nothing else differs.
-- Assumes nothing.
use Prim.Native.Nat.{◌≤◌}
use Rattle.edgelines.proofs.StartLaws.{StartsSoFar}
use Rattle.edgelines.proofs.fill_starts.Given as goal

abbrev pub invariant-loop-j : goal.invariant-loop-j
invariant-loop-j l = (l.a ≤ l.j) × (l.j ≤ l.b) × StartsSoFar l.initial.work l.work l.a l.b l.v l.j
