-- `rowmarks::mark_row` meets its contract.
-- Invariant: the pairs that the row names with the states before q are marked, had no mark, and no other pair changed; q is at most one past the last
-- state, or the first where that is past it.
-- Assumes nothing.
use mathlib.Core.Path.{◌≡◌}
use Prim.Native.Nat.{◌+◌, ◌-◌, ◌≤◌}
use lib.ListN.{length}
use Rattle.rowmarks.proofs.RowLaws.{Block}
use Rattle.rowmarks.proofs.mark_row.Given as goal

abbrev pub invariant-loop-q : goal.invariant-loop-q
invariant-loop-q l =
    (l.initial.q ≤ l.q) × (l.q ≤ l.last + 1 + (l.initial.q - (l.last + 1))) × (length l.marks ≡ length l.initial.marks) × (Block l.initial.marks l.marks l.initial.q l.q l.first l.stop l.mark)
