-- `returnrows::gather_entry` meets its contract: the rows before an entry are joined, and no others.
-- Assumes nothing.
use mathlib.Core.Path.{sym, ◌∙◌}
use Rattle.job.specs.Job.{is_entry}
use Rattle.buffer.specs.Views.{node_in}
use Rattle.classes.specs.Classes.{before_row}
use Rattle.returnrows.proofs.GatherLaws.{union_read, union_other}
use Rattle.returnrows.proofs.gather_entry.Goals as goal

pub returns-then-not-is_entry : goal.returns-then-not-is_entry
returns-then-not-is_entry c =
    let a = c.args in
    (c.requires.0, union_other (before_row a.table.now a.finals a.states a.work.now a.m) (is_entry (node_in a.work.now a.m)) a.rows.now (sym c.is_entry.ensures ∙ c.if-not-is_entry.true))

pub returns : goal.returns
returns c =
    let a = c.args in
    let test = c.is_entry in
    let joined = c.join_relation.ensures in
    (joined.0, union_read (before_row a.table.now a.finals a.states a.work.now a.m) (is_entry (node_in a.work.now a.m)) c.before_rows-more.ensures (sym test.ensures ∙ c.if-not-is_entry.false) joined.1)
