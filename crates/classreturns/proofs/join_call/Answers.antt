-- `classreturns::join_call` meets its contract: the rows are joined at a call that may come back in, and nowhere else.
-- Assumes nothing.
use mathlib.Core.Path.{sym, ◌∙◌}
use Rattle.classreturns.proofs.JoinLaws.{call_joined, call_none}
use Rattle.classreturns.proofs.join_call.Goals as goal

pub shape_of-work-then-is_reentrant : goal.shape_of-work-then-is_reentrant
shape_of-work-then-is_reentrant c = c.join_class_rows.ensures.kept.long

pub returns-then-is_reentrant : goal.returns-then-is_reentrant
returns-then-is_reentrant c =
    let a = c.args in
    call_joined (sym c.is_reentrant.ensures ∙ c.if-is_reentrant.true) c.join_class_rows.ensures

pub returns : goal.returns
returns c =
    let a = c.args in
    call_none a.work.now a.n a.rows.now (sym c.is_reentrant.ensures ∙ c.if-is_reentrant.false)
