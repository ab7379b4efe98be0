-- `plancopy::copy_plan` meets its contract.
-- Invariant: the first n bytes of the plan are copied.
-- Assumes nothing.
use mathlib.Core.Path.{◌≡◌, ap, ◌∙◌}
use Prim.Native.Nat.{ℕ}
use native.Mathlib.Omega.{arith}
use lib.Seq.{sets}
use borrow.Author.Rules.{rules}
use Rattle.plancopy.proofs.CopyLaws.{copied_none, Copied-more}
use Rattle.buffer.specs.Views.{plan_in}
use Rattle.plancopy.proofs.copy_plan.Goals as goal

pub loop-n-init : goal.loop-n-init
loop-n-init c = (search rules, search rules, copied_none c.args.work.now c.args.plan.now)

pub loop-n-preserved : goal.loop-n-preserved
loop-n-preserved c =
    let x = c.args in
    let p = c.requires in
    let l = c.loop-n in (
      search rules,
      search rules,
      Copied-more x.work.now x.plan.now l.plan l.n p.0 (omega (arith, p.1.0)) l.invariant.2,
    )

pub shape_of-plan : goal.shape_of-plan
shape_of-plan c = c.loop-n.invariant.1

pub returns : goal.returns
returns c =
    let x = c.args in
    let l = c.loop-n in
    let e : l.n ≡ x.nodes = omega arith in
    l.invariant.2 ∙ ap (λ (n : ℕ). sets x.plan.now 0 (plan_in x.work.now n)) e
