-- `duelines::fields_in` meets its contract.
-- Invariant: the first k fields are numbers, which stand in order, and those past them are as they were.
-- Assumes nothing.
use Prim.Native.Nat.{◌≤◌}
use Rattle.lines.proofs.LineLaws.{FieldsRead}
use Rattle.duelines.proofs.fields_in.Given as goal

abbrev pub invariant-loop-k : goal.invariant-loop-k
invariant-loop-k l = (l.k ≤ l.count) × FieldsRead l.line l.initial.numbers l.numbers l.k
