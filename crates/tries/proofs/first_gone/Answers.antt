-- `tries::first_gone` meets its contract.
-- Invariant: of the nodes before n none went.
-- Assumes nothing.
use mathlib.Core.Path.{refl, ◌∙◌}
use native.Mathlib.Omega.{arith}
use Rattle.passes.proofs.PlanInLaws.{usable_kept}
use Rattle.passes.proofs.GoneLaws.{none_gone_start, none_gone_carried, none_gone_more, first_gone_here, first_gone_none}
use Rattle.tries.proofs.first_gone.Goals as goal

pub loop-n-init : goal.loop-n-init
loop-n-init c = none_gone_start _

pub try_node-left-requires : goal.try_node-left-requires
try_node-left-requires c =
    let l = c.loop-n in
    let p = c.requires in
    (omega (arith, p.0), (usable_kept l.invariant.kept p.1.0, none_gone_carried l.invariant p.1.1))

pub overflow_add-result : goal.overflow_add-result
overflow_add-result c =
    let p = c.requires in
    omega (arith, p.0, p.1.0.few_nodes)

pub shape_of-work-then-left-progress : goal.shape_of-work-then-left-progress
shape_of-work-then-left-progress c =
    c.try_node-left.ensures.kept.long
    ∙ c.loop-n.invariant.kept.long

pub returns-then-left-progress : goal.returns-then-left-progress
returns-then-left-progress c =
    let p = c.requires in
    let l = c.loop-n in
    first_gone_here p.1.0 l.invariant c.try_node-left.ensures refl (omega arith) (λ e. omega arith)

pub loop-n-preserved : goal.loop-n-preserved
loop-n-preserved c =
    let p = c.requires in
    let l = c.loop-n in
    none_gone_more p.1.0 l.invariant c.try_node-left.ensures (omega arith)

pub shape_of-work : goal.shape_of-work
shape_of-work c = c.loop-n.invariant.kept.long

pub returns : goal.returns
returns c =
    let p = c.requires in
    first_gone_none (omega arith) p.1.1 c.loop-n.invariant
