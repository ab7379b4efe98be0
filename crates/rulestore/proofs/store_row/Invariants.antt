-- `rulestore::store_row` meets its contract.
-- Invariant: the first c cells of the row are stored, and nothing else differs.
-- Assumes nothing.
use Prim.Native.Nat.{◌≤◌}
use Rattle.rulestore.proofs.RuleLaws.{CellsStored}
use Rattle.rulestore.proofs.store_row.Given as goal

abbrev pub invariant-loop-c : goal.invariant-loop-c
invariant-loop-c l = (l.c ≤ 16) × CellsStored l.initial.work l.work l.q l.numbers l.c
