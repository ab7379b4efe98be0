-- `expressioncall::number_rule` meets its contract: 21 where a seventeenth state is met, or the cells as the rule's bytes with the final states.
-- Assumes nothing.
use mathlib.Core.Path.{refl}
use native.Mathlib.Omega.{arith}
use Rattle.expressioncall.proofs.CallLaws.{numbers_many, numbers_rule}
use Rattle.expressioncall.proofs.number_rule.Goals as goal

pub returns-in_default : goal.returns-in_default
returns-in_default c =
    let x = c.args in
    numbers_many x.symbols x.text.now x.follow.now x.firsts x.lasts x.rule.now _ _ 17 c.requires.symbols c.in_default.ensures refl

pub returns : goal.returns
returns c =
    let x = c.args in
    let (done, few) = c.in-Some.ensures in
    numbers_rule x.symbols x.text.now x.follow.now x.firsts x.lasts x.rule.now _ _ c.in-Some.states
    c.requires.symbols done (λ e. omega (arith, e, few)) c.final_states-finals.result
    c.final_states-finals.ensures _ c.copy_from_slice.ensures.after
