-- `planmarks::store_plan` meets its contract.
-- Invariant: the first n bytes of the plan are stored.
-- Assumes nothing.
use Prim.Native.Nat.{◌≤◌}
use Rattle.buffer.specs.Layout.{Lent}
use Rattle.checking.specs.Inner.{PlanStored}
use Rattle.planmarks.proofs.store_plan.Given as goal

abbrev pub invariant-loop-n : goal.invariant-loop-n
invariant-loop-n l = (l.n ≤ l.nodes) × (Lent l.work) × (PlanStored l.plan l.initial.work l.work l.n)
