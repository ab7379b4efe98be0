-- `classrows::class_rows` meets its contract.
-- Invariant: the rows before p are those of the node.
-- Assumes nothing.
use Prim.Native.Nat.{ℕ, ◌≤◌, ◌<◌}
use mathlib.Core.Path.{◌≡◌}
use lib.ListN.{length, get_or}
use Rattle.buffer.specs.Views.{class_row_in}
use Rattle.classrows.proofs.class_rows.Given as goal

abbrev pub invariant-loop-p : goal.invariant-loop-p
invariant-loop-p l = (length l.rows ≡ 16) × (l.p ≤ 16) × ((k : ℕ) → k < l.p → get_or l.rows k 0 ≡ class_row_in l.work l.n k)
