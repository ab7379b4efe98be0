-- `nodereads::any_reentrant` meets its contract.
-- Invariant: none of the nodes below n may come back in.
-- Assumes nothing.
use mathlib.Core.Path.{sym, ◌∙◌}
use native.Mathlib.Omega.{arith}
use Rattle.laws.proofs.Bounded.{any_none, any_more, any_of, any_end}
use Rattle.nodereads.proofs.any_reentrant.Invariants.{again}
use Rattle.nodereads.proofs.any_reentrant.Goals as goal

pub loop-n-init : goal.loop-n-init
loop-n-init c = any_none (again c.args.work.now)

pub is_reentrant-requires : goal.is_reentrant-requires
is_reentrant-requires c = let p = c.requires in (p.0, omega (arith, p.1))

pub returns-then-is_reentrant : goal.returns-then-is_reentrant
returns-then-is_reentrant c =
    let a = c.args in
    sym (any_of a.nodes (again a.work.now) c.loop-n.n (omega (arith, c.loop-n-test.true))
    (sym c.is_reentrant.ensures ∙ c.if-is_reentrant.true))

pub loop-n-preserved : goal.loop-n-preserved
loop-n-preserved c =
    let a = c.args in
    any_more c.loop-n.n (again a.work.now) c.loop-n.invariant
    (sym c.is_reentrant.ensures ∙ c.if-is_reentrant.false)

pub returns : goal.returns
returns c =
    let a = c.args in
    sym (any_end a.nodes c.loop-n.n (again a.work.now) c.loop-n.invariant c.loop-n-test.false)
