-- `plancopy::copy_plan` meets its contract.
-- Invariant: the first n bytes of the plan are copied.
-- Assumes nothing.
use mathlib.Core.Path.{◌≡◌}
use Prim.Native.Nat.{◌≤◌}
use lib.ListN.{length}
use lib.Seq.{sets}
use Rattle.buffer.specs.Views.{plan_in}
use Rattle.plancopy.proofs.copy_plan.Given as goal

abbrev pub invariant-loop-n : goal.invariant-loop-n
invariant-loop-n l = (l.n ≤ l.nodes) × (length l.plan ≡ length l.initial.plan) × (l.plan ≡ sets l.initial.plan 0 (plan_in l.work l.n))
