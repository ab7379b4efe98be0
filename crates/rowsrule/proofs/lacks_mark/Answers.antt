-- `rowsrule::lacks_mark` meets its contract.
-- Invariant: the pairs of the state with the first c symbols have marks.
-- Assumes nothing.
use mathlib.Core.Path.{sym}
use borrow.Author.Rules.{rules}
use borrow.Author.Tests.{eq-eqb, ne_eqb}
use Rattle.laws.proofs.Bounded.{any_none, any_more, any_of, any_end}
use Rattle.rulerows.specs.Inner.{mark_at}
use Rattle.rowsrule.proofs.lacks_mark.Invariants.{unmarked}
use Rattle.rowsrule.proofs.lacks_mark.Goals as goal

pub loop-c-init : goal.loop-c-init
loop-c-init c = (search rules, any_none _)

pub returns-then-marks-state-eq0 : goal.returns-then-marks-state-eq0
returns-then-marks-state-eq0 c =
    let x = c.args in
    let k = c.loop-c.c in
    sym (any_of x.symbols (unmarked x.marks.now x.state) k (search rules) (eq-eqb (mark_at x.marks.now x.state k) 0 c.if-marks-state-eq0.true))

pub loop-c-preserved : goal.loop-c-preserved
loop-c-preserved c =
    let x = c.args in
    let l = c.loop-c in (
      search rules,
      any_more l.c (unmarked x.marks.now x.state) l.invariant.1 (ne_eqb (mark_at x.marks.now x.state l.c) 0 c.if-marks-state-eq0.false),
    )

pub returns : goal.returns
returns c = sym (any_end _ _ _ c.loop-c.invariant.1 (search rules))
