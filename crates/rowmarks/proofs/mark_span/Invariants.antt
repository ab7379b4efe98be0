-- `rowmarks::mark_span` meets its contract.
-- Invariant: the places from the start to before i are marked, had no mark, and no other place changed; i is at most the stop, or the start where
-- that is past the stop.
-- Assumes nothing.
use mathlib.Core.Path.{◌≡◌}
use Prim.Native.Nat.{◌+◌, ◌-◌, ◌≤◌}
use lib.ListN.{length}
use Rattle.rulerows.specs.Inner.{Marked}
use Rattle.rowmarks.proofs.mark_span.Given as goal

abbrev pub invariant-loop-i : goal.invariant-loop-i
invariant-loop-i l =
    (l.start ≤ l.i) × (l.i ≤ l.stop + (l.start - l.stop)) × (length l.marks ≡ length l.initial.marks) × (Marked l.initial.marks l.marks l.start l.i l.mark)
