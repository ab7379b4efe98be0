-- `rulestore::clear_rule` meets its contract.
-- Invariant: the first k bytes of the part are zero, and nothing else differs.
-- Assumes nothing.
use Prim.Native.Nat.{ℕ, ◌+◌, ◌≤◌, ◌<◌}
use mathlib.Core.Path.{◌≡◌}
use lib.ListN.{get_or}
use Rattle.buffer.specs.Layout.{rule_part, marks_part, Lent}
use Rattle.buffer.specs.Kept.{SameOutside}
use Rattle.rulestore.proofs.clear_rule.Given as goal

abbrev pub invariant-loop-k : goal.invariant-loop-k
invariant-loop-k l = (l.k ≤ 256) × (Lent l.initial.work) × SameOutside l.initial.work l.work rule_part marks_part × ((j : ℕ) → j < l.k → get_or l.work (rule_part + j) 0 ≡ 0)
