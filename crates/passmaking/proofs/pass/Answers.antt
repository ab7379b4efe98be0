-- `passmaking::pass` meets its contract: where none of the nodes before `progress.last` goes the plan is as it was.
-- Assumes nothing.
use native.Mathlib.Omega.{arith}
use Rattle.passes.proofs.PlanInLaws.{usable_kept}
use Rattle.passes.proofs.PassMadeLaws.{pass_none, pass_some}
use Rattle.passmaking.proofs.pass.Goals as goal

pub returns-then-gone-eq0 : goal.returns-then-gone-eq0
returns-then-gone-eq0 c =
    let p = c.requires in
    pass_none p.0 (omega arith) c.first_gone-gone.ensures

pub last_gone-requires : goal.last_gone-requires
last_gone-requires c =
    let p = c.requires in
    let g = c.first_gone-gone.ensures in
    (omega (arith, g.within, p.0), (usable_kept g.kept p.1.0, g.carried))

pub returns : goal.returns
returns c =
    let u = c.requires.1.0 in
    let g = c.first_gone-gone.ensures in
    pass_some u (λ e. omega arith) g c.last_gone.ensures
