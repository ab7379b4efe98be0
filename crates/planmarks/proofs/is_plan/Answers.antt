-- `planmarks::is_plan` meets its contract.
-- Invariant: the first n nodes may have their bytes.
-- Assumes nothing.
use mathlib.Core.Path.{◌≡◌, sym, ◌∙◌}
use Prim.Native.Nat.{◌<◌}
use native.Mathlib.Omega.{arith}
use lib.ListN.{length, take}
use lib.Seq.{length-take-le, get_or-take}
use Rattle.laws.proofs.Bounded.{all_none, all_more, all_end, all_fails}
use Rattle.planmarks.proofs.is_plan.Invariants.{good}
use Rattle.planmarks.proofs.is_plan.Goals as goal

pub loop-n-init : goal.loop-n-init
loop-n-init c = all_none _

pub returns-then-not-is_mark : goal.returns-then-not-is_mark
returns-then-not-is_mark c =
    let x = c.args in
    let n = c.loop-n.n in
    let h : n < x.nodes = omega (arith, length-take-le x.nodes x.plan.now c.requires.1.1) in
    sym (all_fails x.nodes (good x.plan.now x.work.now) n h
    (rw (get_or-take x.nodes x.plan.now n 0 h) at (sym c.is_mark.ensures ∙ c.if-not-is_mark.true)))

pub loop-n-preserved : goal.loop-n-preserved
loop-n-preserved c =
    let x = c.args in
    let l = c.loop-n in
    let h : l.n < x.nodes = omega (arith, length-take-le x.nodes x.plan.now c.requires.1.1) in
    all_more l.n (good x.plan.now x.work.now) l.invariant
    (rw (get_or-take x.nodes x.plan.now l.n 0 h) at (sym c.is_mark.ensures ∙ c.if-not-is_mark.false))

pub returns : goal.returns
returns c =
    let x = c.args in
    let all : length (take x.nodes x.plan.now) ≡ x.nodes = length-take-le x.nodes x.plan.now c.requires.1.1 in
    sym (all_end _ _ _ c.loop-n.invariant (omega arith))
