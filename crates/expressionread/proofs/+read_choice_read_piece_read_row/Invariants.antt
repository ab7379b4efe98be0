-- The three functions of the reader, `expressionread::read_choice`, `read_row` and `read_piece`, meet their contracts together.
-- Measure: what is left of the text, three times, and 2, 1 and 0 for the levels: a call at the same position goes down a level, and each other
-- call stands behind a character. A part that is found and what comes after it are put together by the laws of `AnswerLaws`.
-- Assumes nothing.
use Prim.Native.Nat.{◌+◌, ◌-◌, ◌*◌}
use lib.ListN.{length}
use Rattle.expressionread.proofs.+read_choice_read_piece_read_row.Given as goal

abbrev pub decreases-read_choice : goal.decreases-read_choice
decreases-read_choice l = (length l.text.now - l.at) * 3 + 2

abbrev pub decreases-read_piece : goal.decreases-read_piece
decreases-read_piece l = (length l.text.now - l.at) * 3

abbrev pub decreases-read_row : goal.decreases-read_row
decreases-read_row l = (length l.text.now - l.at) * 3 + 1
