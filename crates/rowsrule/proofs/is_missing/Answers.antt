-- `rowsrule::is_missing` meets its contract.
-- Invariant: the pairs of the first q states have marks.
-- Assumes nothing.
use mathlib.Core.Path.{sym, ◌∙◌}
use borrow.Author.Rules.{rules}
use Rattle.laws.proofs.Bounded.{any_none, any_more, any_of, any_end}
use Rattle.rowsrule.proofs.is_missing.Invariants.{lacking}
use Rattle.rowsrule.proofs.is_missing.Goals as goal

pub loop-q-init : goal.loop-q-init
loop-q-init c = (search rules, any_none _)

pub returns-then-lacks_mark : goal.returns-then-lacks_mark
returns-then-lacks_mark c =
    let x = c.args in
    sym (any_of x.states (lacking x.marks.now x.symbols) c.loop-q.q (search rules)
    (sym c.lacks_mark.ensures ∙ c.if-lacks_mark.true))

pub loop-q-preserved : goal.loop-q-preserved
loop-q-preserved c =
    let x = c.args in
    let l = c.loop-q in (
      search rules,
      any_more l.q (lacking x.marks.now x.symbols) l.invariant.1 (sym c.lacks_mark.ensures ∙ c.if-lacks_mark.false),
    )

pub returns : goal.returns
returns c = sym (any_end _ _ _ c.loop-q.invariant.1 (search rules))
