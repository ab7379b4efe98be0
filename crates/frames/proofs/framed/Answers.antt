-- `frames::framed` meets its contract: nothing is left, too little, another letter or end byte, or a line but for its fields.
-- Assumes nothing.
use Prim.Native.Nat.{◌+◌, ◌*◌}
use native.Mathlib.Omega.{arith}
use lib.ListN.{length-drop, drop}
use Rattle.lines.proofs.LineLaws.{due_ends, due_short, due_letter, due_end_byte, due_frame, line_length_lem}
use Rattle.frames.proofs.framed.Goals as goal

pub returns-then-left-eq0 : goal.returns-then-left-eq0
returns-then-left-eq0 c =
    let x = c.args in
    due_ends x.letter x.count (drop x.at x.file.now) (omega (arith, length-drop x.at x.file.now))

pub returns-then-left-len : goal.returns-then-left-len
returns-then-left-len c =
    let x = c.args in
    due_short x.letter x.count (drop x.at x.file.now) (omega (arith, length-drop x.at x.file.now))
    (omega (arith, length-drop x.at x.file.now))

pub bounds-line-0 : goal.bounds-line-0
bounds-line-0 c =
    let x = c.args in
    let l = c.line_at-line in
    omega (arith, line_length_lem x.file.now x.at (x.count * 6 + 2) l.result.now (omega arith) l.ensures)

pub returns-then-line-letter : goal.returns-then-line-letter
returns-then-line-letter c =
    let x = c.args in
    let l = c.line_at-line in
    due_letter x.letter x.count (drop x.at x.file.now) l.result.now (omega (arith, length-drop x.at x.file.now))
    l.ensures c.if-line-letter.true

pub bounds-line-len : goal.bounds-line-len
bounds-line-len c =
    let x = c.args in
    let l = c.line_at-line in
    omega (arith, line_length_lem x.file.now x.at (x.count * 6 + 2) l.result.now (omega arith) l.ensures)

pub returns-then-line-len-ne10 : goal.returns-then-line-len-ne10
returns-then-line-len-ne10 c =
    let x = c.args in
    let l = c.line_at-line in
    due_end_byte x.letter x.count (drop x.at x.file.now) l.result.now (omega (arith, length-drop x.at x.file.now))
    l.ensures c.if-line-len-ne10.true

pub returns : goal.returns
returns c =
    let x = c.args in
    let l = c.line_at-line in
    due_frame x.letter x.count (drop x.at x.file.now) l.result.now (omega (arith, length-drop x.at x.file.now))
    l.ensures c.if-line-letter.false c.if-line-len-ne10.false
