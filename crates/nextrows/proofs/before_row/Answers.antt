-- `nextrows::before_row` meets its contract.
-- At a shadow by the symbol that stands there, at any other node by its own row.
-- Assumes nothing.
use mathlib.Core.Path.{sym, ◌∙◌}
use Rattle.classes.proofs.ClassLaws.{before_shadow, before_other}
use Rattle.nextrows.proofs.before_row.Goals as goal

pub returns-then-is_shadow : goal.returns-then-is_shadow
returns-then-is_shadow c =
    let a = c.args in
    let symbol = c.symbol_at-a in
    let to = c.next_state-state in
    before_shadow a.table.now a.finals a.states a.work.now a.m a.p symbol.result to.result
    c.class_row.result c.unlike_states.result c.preimage_under.result
    (sym c.is_shadow.ensures ∙ c.if-is_shadow.true)
    symbol.ensures.1 to.ensures.0 c.class_row.ensures c.unlike_states.ensures
    c.preimage_under.ensures

pub returns : goal.returns
returns c =
    let a = c.args in
    before_other a.table.now a.finals a.states a.work.now a.m a.p c.class_row-2.result
    (sym c.is_shadow.ensures ∙ c.if-is_shadow.false) c.class_row-2.ensures
