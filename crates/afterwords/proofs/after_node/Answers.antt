-- `afterwords::after_node` meets its contract: the rows are closed under words over the after set, and joined.
-- Assumes nothing.
use Rattle.classes.proofs.AfterLaws.{after_joined}
use Rattle.afterwords.proofs.after_node.Goals as goal

pub returns : goal.returns
returns c =
    let a = c.args in
    let set = c.after_set-set in
    let closed = c.close_words in
    let joined = c.join_class_rows in
    after_joined a.table.now a.finals a.states a.work.now joined.new.work a.n set.result a.rows closed.new.rows
    joined.result set.ensures closed.ensures joined.ensures
