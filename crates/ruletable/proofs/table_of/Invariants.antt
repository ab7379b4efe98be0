-- `ruletable::table_of` meets its contract.
-- Invariant: the rows before q are those of the bytes.
-- Assumes nothing.
use Prim.Native.Nat.{ℕ, ◌*◌, ◌≤◌, ◌<◌}
use mathlib.Core.Path.{◌≡◌}
use mathlib.Core.List.{[]}
use lib.ListN.{length, get_or}
use Rattle.automaton.specs.Table.{row_of}
use Rattle.ruletable.proofs.table_of.Given as goal

abbrev pub invariant-loop-q : goal.invariant-loop-q
invariant-loop-q l =
    (length l.table ≡ 16) × (l.q ≤ 16) × ((k : ℕ) → k < l.q → get_or l.table k [] ≡ row_of l.bytes (k * 16))
