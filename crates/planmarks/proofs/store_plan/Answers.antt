-- `planmarks::store_plan` meets its contract.
-- Invariant: the first n bytes of the plan are stored.
-- Assumes nothing.
use mathlib.Core.Path.{◌≡◌, subst}
use Prim.Native.Nat.{ℕ}
use native.Mathlib.Omega.{arith}
use borrow.Author.Rules.{rules}
use Rattle.checking.specs.Inner.{PlanStored}
use Rattle.checking.proofs.PlanLaws.{plan_none, plan_more}
use Rattle.planmarks.proofs.store_plan.Goals as goal

pub loop-n-init : goal.loop-n-init
loop-n-init c = (search rules, search rules, plan_none c.args.plan.now c.args.work.now)

pub loop-n-preserved : goal.loop-n-preserved
loop-n-preserved c =
    let x = c.args in
    let l = c.loop-n in
    let p = c.requires in (
      search rules,
      search rules,
      plan_more x.plan.now x.work.now l.work l.n (omega (arith, p.1.0)) l.invariant.1 l.invariant.2,
    )

pub shape_of-work : goal.shape_of-work
shape_of-work c = c.loop-n.invariant.2.kept.long

pub returns : goal.returns
returns c =
    let x = c.args in
    let l = c.loop-n in
    let e : l.n ≡ x.nodes = omega arith in
    subst (λ (k : ℕ). PlanStored x.plan.now x.work.now l.work k) e l.invariant.2
