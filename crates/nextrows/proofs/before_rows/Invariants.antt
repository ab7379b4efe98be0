-- `nextrows::before_rows` meets its contract.
-- Invariant: the rows before p are those before the node.
-- Assumes nothing.
use Prim.Native.Nat.{ℕ, ◌<◌}
use mathlib.Core.Path.{◌≡◌}
use lib.ListN.{length, get_or}
use Rattle.classes.specs.Classes.{before_row}
use Rattle.nextrows.proofs.before_rows.Given as goal

abbrev pub invariant-loop-p : goal.invariant-loop-p
invariant-loop-p l =
    (length l.rows ≡ 16) × ((k : ℕ) → k < l.p → get_or l.rows k 0 ≡ before_row l.table l.finals l.states l.work l.m k)
