-- `exitrows::join_ended` meets its contract: a node that is no exit and an exit without a pair join nothing; elsewhere the rows past the
-- node are closed under the words of its set.
-- Assumes nothing.
use mathlib.Core.Path.{sym, ◌∙◌}
use Rattle.tables.proofs.SixteenLaws.{empty_rows, empty_sixteen}
use Rattle.exitrows.proofs.EndedLaws.{ended_none, ended_empty, ended_joined}
use Rattle.exitrows.proofs.join_ended.Goals as goal

pub returns-then-not-is_exit : goal.returns-then-not-is_exit
returns-then-not-is_exit c = ended_none c.requires.0 (sym c.is_exit.ensures ∙ c.if-not-is_exit.true)

pub join_past_rows-requires : goal.join_past_rows-requires
unfolding empty_rows
join_past_rows-requires c = (empty_sixteen, c.requires.1)

pub returns-then-join_past_rows-eq0 : goal.returns-then-join_past_rows-eq0
returns-then-join_past_rows-eq0 c = ended_empty c.requires.0 c.join_past_rows.ensures c.if-join_past_rows-eq0.true

pub shape_of-rows : goal.shape_of-rows
shape_of-rows c = c.join_relation.ensures.0.long ∙ sym c.requires.0.long

pub returns : goal.returns
unfolding empty_rows
returns c =
    ended_joined c.requires.1.1.1 (sym c.is_exit.ensures ∙ c.if-not-is_exit.false) c.join_past_rows.ensures
    c.after_set.ensures c.close_forward.ensures c.join_relation.ensures.1 c.join_relation.ensures.0
