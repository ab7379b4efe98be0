-- `duelines::due_line` meets its contract: no such line, or a line whose fields decide.
-- Assumes nothing.
use mathlib.Core.Path.{refl}
use native.Mathlib.Omega.{arith}
use lib.ListN.{length-drop, drop}
use Rattle.std.proofs.lemmas.Result.{err_from_is_err_and}
use Rattle.refusal.proofs.RefusalLaws.{number_some}
use Rattle.lines.proofs.LineLaws.{frame_length, due_none, due_fields}
use Rattle.duelines.proofs.due_line.Goals as goal

pub returns-in_err-framed : goal.returns-in_err-framed
returns-in_err-framed c =
    let x = c.args in
    let e = err_from_is_err_and c.from_residual.result c.from_residual.ensures.1 in
    rw (e.1, e.2) (due_none x.letter x.count (drop x.at x.file.now) x.numbers.now _ c.in_err-framed.ensures (number_some _))

pub line_at-requires : goal.line_at-requires
line_at-requires c =
    let x = c.args in
    omega (arith, c.in_ok-framed.ensures.within refl, length-drop x.at x.file.now)

pub fields_in-requires : goal.fields_in-requires
fields_in-requires c =
    let x = c.args in
    let l = c.line_at in
    let long = frame_length x.letter x.count (drop x.at x.file.now) l.result.now 0 c.in_ok-framed.ensures refl l.ensures in
    (omega arith, omega arith)

pub returns : goal.returns
returns c =
    let x = c.args in
    let l = c.line_at in
    due_fields x.letter x.count (drop x.at x.file.now) l.result.now _ _ 0 _ c.in_ok-framed.ensures
    refl l.ensures c.fields_in.ensures
