-- `classreturns::join_exit` meets its contract: the after words are joined at an exit, and nowhere else.
-- Assumes nothing.
use mathlib.Core.Path.{sym, ◌∙◌}
use Rattle.classreturns.proofs.JoinLaws.{exit_joined, exit_none}
use Rattle.classreturns.proofs.join_exit.Goals as goal

pub shape_of-work-then-is_exit : goal.shape_of-work-then-is_exit
shape_of-work-then-is_exit c = c.after_node.ensures.kept.long

pub returns-then-is_exit : goal.returns-then-is_exit
returns-then-is_exit c =
    let a = c.args in
    exit_joined a.rows (sym c.is_exit.ensures ∙ c.if-is_exit.true) c.after_node.ensures

pub returns : goal.returns
returns c =
    let a = c.args in
    exit_none a.table.now a.finals a.states a.work.now a.n a.rows (sym c.is_exit.ensures ∙ c.if-is_exit.false)
