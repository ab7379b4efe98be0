-- `returns::come_back` meets its contract. Without a call that may come back in there is nothing to join; elsewhere what the exits lead to
-- is joined at the calls, and then what the calls hold at the entries. A row that is marked then has grown.
-- Assumes nothing.
use mathlib.Core.Path.{sym, ◌∙◌}
use Rattle.returns.proofs.ReturnLaws.{none_back, came_back}
use Rattle.returns.proofs.come_back.Goals as goal

pub returns-then-not-any_reentrant : goal.returns-then-not-any_reentrant
returns-then-not-any_reentrant c =
    let a = c.args in
    none_back a.table.now a.finals a.states a.nodes a.work.now c.requires.1
    (sym c.any_reentrant.ensures ∙ c.if-not-any_reentrant.true)

pub shape_of-work : goal.shape_of-work
shape_of-work c = c.join_entries.ensures.grown.kept.long ∙ c.join_reentrants.ensures.grown.kept.long

pub returns : goal.returns
returns c =
    came_back c.requires.0 c.requires.1 c.exit_rows-back.ensures c.join_reentrants.ensures c.entering_rows-again.ensures
    c.join_entries.ensures c.next_marked.ensures
