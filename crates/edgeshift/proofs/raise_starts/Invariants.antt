-- `edgeshift::raise_starts` meets its contract.
-- Invariant: of the part of the starts after node b, those before the index are one more.
-- Assumes nothing.
use Prim.Native.Nat.{◌+◌}
use Rattle.edgeshift.proofs.ShiftLaws.{Changed}
use Rattle.edgeshift.proofs.raise_starts.Given as goal

abbrev pub invariant-loop-start : goal.invariant-loop-start
invariant-loop-start l = Changed l.initial.start-items l.start-items l.start-index (λ m. m + 1)
