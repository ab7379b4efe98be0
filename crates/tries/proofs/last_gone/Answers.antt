-- `tries::last_gone` meets its contract.
-- Invariant: the nodes from `progress.last` on to before n were tried, and `last` is one past the last of them that went.
-- Assumes nothing.
use mathlib.Core.Logic.{inl, inr}
use native.Mathlib.Omega.{arith}
use Rattle.passes.proofs.PlanInLaws.{usable_kept}
use Rattle.passes.proofs.GoneLaws.{last_so_far_start, last_so_far_more, last_so_far_end}
use Rattle.tries.proofs.last_gone.Goals as goal
use Rattle.tries.proofs.last_gone.Goals.{then-left-total, else-left-total}

pub loop-n-init : goal.loop-n-init
loop-n-init c = last_so_far_start _ _ c.requires.1.1

pub try_node-left-requires : goal.try_node-left-requires
try_node-left-requires c =
    let l = c.loop-n in
    let p = c.requires in
    (omega arith, (usable_kept l.invariant.kept p.1.0, l.invariant.carried))

pub overflow_add-last : goal.overflow_add-last
overflow_add-last c = omega (arith, c.requires.1.0.few_nodes)

pub loop-n-preserved : goal.loop-n-preserved
loop-n-preserved c =
    let u = c.requires.1.0 in
    let l = c.loop-n in
    last_so_far_more u l.invariant c.try_node-left.ensures
    (elim c.if-left-total.branch [
      | then-left-total w ↦ inl (w.if-left-total.true, w.last-is)
      | else-left-total w ↦ inr (w.if-left-total.false, w.last-is)
    ])

pub shape_of-work : goal.shape_of-work
shape_of-work c = c.loop-n.invariant.kept.long

pub returns : goal.returns
returns c = last_so_far_end (omega arith) c.loop-n.invariant
