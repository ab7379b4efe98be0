-- `spelling::grow_row` meets its contract.
-- Assumes nothing.
use mathlib.Core.Path.{sym, ◌∙◌}
use Rattle.spelling.proofs.SpellingLaws.{row_quiet, row_grown}
use Rattle.spelling.proofs.grow_row.Goals as goal

pub join_row-requires : goal.join_row-requires
join_row-requires c = c.requires

pub shape_of-rows-then-join_row-eq0 : goal.shape_of-rows-then-join_row-eq0
shape_of-rows-then-join_row-eq0 c =
    c.join_row.ensures.sixteen.long ∙ sym c.requires.0.long

pub returns-then-join_row-eq0 : goal.returns-then-join_row-eq0
returns-then-join_row-eq0 c = row_quiet c.join_row.ensures c.if-join_row-eq0.true

pub shape_of-rows : goal.shape_of-rows
shape_of-rows c =
    c.join_row.ensures.sixteen.long
    ∙ sym c.requires.0.long

pub returns : goal.returns
returns c = row_grown c.join_row.ensures c.if-join_row-eq0.false c.insert.ensures
