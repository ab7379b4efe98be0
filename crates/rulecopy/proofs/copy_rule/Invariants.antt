-- `rulecopy::copy_rule` meets its contract.
-- Invariant: the first i bytes of the rule buffer are copied.
-- Assumes nothing.
use mathlib.Core.Path.{◌≡◌}
use Prim.Native.Nat.{ℕ, ◌+◌, ◌≤◌, ◌<◌}
use lib.ListN.{length, get_or}
use Rattle.buffer.specs.Layout.{rule_part}
use Rattle.rulecopy.proofs.copy_rule.Given as goal

abbrev pub invariant-loop-i : goal.invariant-loop-i
invariant-loop-i l =
    (l.i ≤ 256) × (length l.rule ≡ length l.initial.rule) × ((k : ℕ) → k < l.i → get_or l.rule k 0 ≡ get_or l.work (rule_part + k) 0)
