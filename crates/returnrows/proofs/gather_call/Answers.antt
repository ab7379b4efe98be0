-- `returnrows::gather_call` meets its contract: the rows past a call that may come back in are joined, and no others.
-- Assumes nothing.
use mathlib.Core.Path.{sym, ◌∙◌}
use Rattle.job.specs.Job.{is_reentrant}
use Rattle.buffer.specs.Views.{node_in, class_row_in}
use Rattle.returnrows.proofs.GatherLaws.{union_read, union_other}
use Rattle.returnrows.proofs.gather_call.Goals as goal

pub returns-then-not-is_reentrant : goal.returns-then-not-is_reentrant
returns-then-not-is_reentrant c =
    let a = c.args in
    (c.requires.0, union_other (class_row_in a.work.now a.m) (is_reentrant (node_in a.work.now a.m).kind) a.rows.now (sym c.is_reentrant.ensures ∙ c.if-not-is_reentrant.true))

pub returns : goal.returns
returns c =
    let a = c.args in
    let test = c.is_reentrant in
    let joined = c.join_relation.ensures in
    (joined.0, union_read (class_row_in a.work.now a.m) (is_reentrant (node_in a.work.now a.m).kind) c.class_rows-more.ensures (sym test.ensures ∙ c.if-not-is_reentrant.false) joined.1)
