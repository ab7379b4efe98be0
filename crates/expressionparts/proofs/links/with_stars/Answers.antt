-- `expressionparts::links::with_stars` meets its contract.
-- Invariant: the stars before `end` are read, the first of which has linked the part to itself: the others change nothing.
-- Measure: what is left of the text, which a star is part of.
-- Assumes nothing.
use native.Mathlib.Omega.{arith}
use Rattle.expression.proofs.GrammarLaws.{char_within}
use Rattle.expressionparts.proofs.PartLaws.{starred_none, starring_first, starring_more, starring_all}
use Rattle.expressionparts.proofs.links.with_stars.Goals as goal

pub returns-then-not-is_at : goal.returns-then-not-is_at
returns-then-not-is_at c =
    let z = c.args in
    starred_none z.text.now z.d z.follow.now (c.is_at.ensures.not_so (c.if-not-is_at.true))

pub overflow_add-end : goal.overflow_add-end
overflow_add-end c =
    let z = c.args in
    let p = c.is_at.ensures.yes_so (c.if-not-is_at.false) in
    record { fits = omega (arith, char_within z.text.now z.d.end (omega (arith, p))) }

pub loop-end-init : goal.loop-end-init
loop-end-init c =
    let z = c.args in
    starring_first z.text.now z.d _ (c.is_at.ensures.yes_so (c.if-not-is_at.false))

pub overflow_add-end-in-loop-end : goal.overflow_add-end-in-loop-end
overflow_add-end-in-loop-end c =
    let l = c.loop-end in
    let z = c.args in
    let p = c.is_at-in-loop-end.ensures.yes_so c.loop-end-test.true in
    record { fits = omega (arith, char_within z.text.now l.end (omega (arith, p))) }

pub loop-end-smaller : goal.loop-end-smaller
loop-end-smaller c =
    let l = c.loop-end in
    let z = c.args in
    let p = c.is_at-in-loop-end.ensures.yes_so c.loop-end-test.true in
    omega (arith, char_within z.text.now l.end (omega (arith, p)))

pub loop-end-preserved : goal.loop-end-preserved
loop-end-preserved c =
    let l = c.loop-end in
    let z = c.args in
    let p = c.is_at-in-loop-end.ensures.yes_so c.loop-end-test.true in
    starring_more z.text.now z.d _ l.end l.invariant p

pub returns : goal.returns
returns c =
    let l = c.loop-end in
    let z = c.args in
    starring_all z.text.now z.d c.up_to.result z.follow.now c.link.new.follow l.end l.invariant c.requires.1
    c.link.ensures (c.is_at-in-loop-end.ensures.not_so c.loop-end-test.false) c.up_to.ensures
