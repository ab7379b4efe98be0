-- The three functions of the reader, `expressionread::read_choice`, `read_row` and `read_piece`, meet their contracts together.
-- Measure: what is left of the text, three times, and 2, 1 and 0 for the levels: a call at the same position goes down a level, and each other
-- call stands behind a character. A part that is found and what comes after it are put together by the laws of `AnswerLaws`.
-- Assumes nothing.
use Rattle.expressionparts.proofs.PartLaws.{letter_shown, group_shown}
use Rattle.expression.proofs.NoneLaws.{at_within, letter_within, begins_within, piece_none, row_none}
use Rattle.expressionread.proofs.AnswerLaws.{renamed, renamed_shown, ready_after, goes_on}
use Rattle.expressionread.proofs.AnswerLaws.{row_single, row_then, row_none_past, choice_only, choice_or, choice_none_past, group_none_past, group_open_past}
use Prim.Native.Nat.{◌<◌}
use native.Mathlib.Omega.{arith}
use lib.ListN.{length}
use Rattle.expressionread.proofs.+read_choice_read_piece_read_row.Goals as goal

pub read_choice-returns-then-not-is_at : goal.read_choice-returns-then-not-is_at
read_choice-returns-then-not-is_at t c = choice_only c.in_ok-d.ensures (c.is_at.ensures.not_so c.if-not-is_at.true)

pub read_choice-read_choice-requires : goal.read_choice-read_choice-requires
read_choice-read_choice-requires t c =
    let w = c.in_ok-d.ensures in
    let bar = c.is_at.ensures.yes_so c.if-not-is_at.false in
    (omega (arith, at_within c.args.text.now c.in_ok-d.d.end 124 (omega arith) bar, goes_on w), ready_after c.requires w)

pub read_choice-returns-in_err-e : goal.read_choice-returns-in_err-e
read_choice-returns-in_err-e t c =
    rw c.from_residual-in_err-e.ensures
    (choice_none_past c.requires.few c.in_ok-d.ensures (c.is_at.ensures.yes_so c.if-not-is_at.false) c.in_err-e.ensures)

pub read_choice-returns : goal.read_choice-returns
read_choice-returns t c =
    renamed c.choose.ensures (choice_or c.in_ok-d.ensures (c.is_at.ensures.yes_so c.if-not-is_at.false) c.in_ok-e.ensures)

pub read_piece-returns-then-is_letter : goal.read_piece-returns-then-is_letter
read_piece-returns-then-is_letter t c =
    let z = c.args in
    let x = c.is_letter.ensures.yes_so c.if-is_letter.true in
    let inside : z.at < length z.follow.now = omega (arith, letter_within z.at x, c.requires.room) in
    let shown = renamed_shown c.letter_part-letter.ensures (letter_shown z.at z.follow.now x inside) in
    c.with_stars.ensures z.letters z.at z.follow.now shown

pub read_piece-returns-then-not-is_at : goal.read_piece-returns-then-not-is_at
read_piece-returns-then-not-is_at t c =
    piece_none c.args.at (c.is_at.ensures.not_so c.if-not-is_at.true) (c.is_letter.ensures.not_so c.if-is_letter.false)

pub read_piece-returns-in_err-d : goal.read_piece-returns-in_err-d
read_piece-returns-in_err-d t c =
    rw c.from_residual.ensures
    (group_none_past c.args.at (c.is_at.ensures.yes_so c.if-not-is_at.false) c.in_err-d.ensures)

pub read_piece-returns-then-not-is_at-2 : goal.read_piece-returns-then-not-is_at-2
read_piece-returns-then-not-is_at-2 t c =
    group_open_past c.requires.few (c.is_at.ensures.yes_so c.if-not-is_at.false) c.in_ok-d.ensures
    (c.is_at-2.ensures.not_so c.if-not-is_at-2.true)

pub read_piece-returns : goal.read_piece-returns
read_piece-returns t c =
    let z = c.args in
    let opens = c.is_at.ensures.yes_so c.if-not-is_at.false in
    let closes = c.is_at-2.ensures.yes_so c.if-not-is_at-2.false in
    let shown = group_shown z.at z.follow.now c.read_choice.new.follow c.in_ok-d.d opens closes c.in_ok-d.ensures.shown in
    c.with_stars-2.ensures z.letters z.at z.follow.now (renamed_shown c.up_to-whole.ensures shown)

pub read_row-returns-in_err-d : goal.read_row-returns-in_err-d
read_row-returns-in_err-d t c = rw c.from_residual.ensures (row_none c.args.at c.in_err-d.ensures)

pub read_row-returns-then-not-begins : goal.read_row-returns-then-not-begins
read_row-returns-then-not-begins t c = row_single c.in_ok-d.ensures (c.begins.ensures.not_so c.if-not-begins.true)

pub read_row-read_row-requires : goal.read_row-read_row-requires
read_row-read_row-requires t c =
    let w = c.in_ok-d.ensures in
    let here = begins_within c.in_ok-d.d.end (c.begins.ensures.yes_so c.if-not-begins.false) in
    (omega (arith, here, goes_on w), ready_after c.requires w)

pub read_row-returns-in_err-e : goal.read_row-returns-in_err-e
read_row-returns-in_err-e t c =
    rw c.from_residual-in_err-e.ensures
    (row_none_past c.requires.few c.in_ok-d.ensures (c.begins.ensures.yes_so c.if-not-begins.false) c.in_err-e.ensures)

pub read_row-returns : goal.read_row-returns
read_row-returns t c =
    renamed c.follow_on.ensures (row_then c.requires.room c.in_ok-d.ensures c.in_ok-e.ensures c.link.ensures)
