-- `numberedline::numbered_line` meets its contract: nothing or no line, another place, a number above the limit, or the number.
-- Assumes nothing.
use mathlib.Core.Path.{sym, ◌∙◌}
use native.Mathlib.Omega.{arith}
use lib.ListN.{drop}
use Rattle.numberedline.proofs.NumberedLineLaws.{number_stop, number_elsewhere, number_above, number_passes}
use Rattle.numberedline.proofs.numbered_line.Goals as goal

pub returns-in_err-ok : goal.returns-in_err-ok
returns-in_err-ok c =
    let x = c.args in
    c.from_residual.ensures
    ∙ number_stop x.letter x.limit x.place (drop x.at x.file.now) c.due_line.result c.due_line.ensures (sym c.in_err-ok.ensures.value)

pub returns-then-numbers-place : goal.returns-then-numbers-place
returns-then-numbers-place c =
    let x = c.args in
    number_elsewhere x.letter x.limit x.place (drop x.at x.file.now) c.due_line.result c.due_line.ensures _
    (sym c.in_ok-ok.ensures.value) c.if-numbers-place.true

pub returns-then-limit-numbers : goal.returns-then-limit-numbers
returns-then-limit-numbers c =
    let x = c.args in
    number_above x.letter x.limit x.place (drop x.at x.file.now) c.due_line.result c.due_line.ensures _
    (sym c.in_ok-ok.ensures.value) c.if-limit-numbers.true

pub returns : goal.returns
returns c =
    let x = c.args in
    number_passes x.letter x.limit x.place (drop x.at x.file.now) c.due_line.result c.due_line.ensures _
    (sym c.in_ok-ok.ensures.value) c.if-numbers-place.false (omega arith)
