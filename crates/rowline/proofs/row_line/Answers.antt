-- `rowline::row_line` meets its contract: nothing or no line, or a line whose numbers decide.
-- Assumes nothing.
use mathlib.Core.Path.{sym, ◌∙◌}
use mathlib.Core.Bool.{true, false}
use lib.ListN.{drop}
use Rattle.rowline.proofs.RowLineLaws.{row_stop, row_tested}
use Rattle.rowline.proofs.row_line.Goals as goal

pub returns-in_err-ok : goal.returns-in_err-ok
returns-in_err-ok c =
    let x = c.args in
    c.from_residual.ensures
    ∙ row_stop x.states x.symbols (drop x.at x.text.now) c.due_line.result c.due_line.ensures (sym c.in_err-ok.ensures.value)

pub returns-then-not-is_row : goal.returns-then-not-is_row
returns-then-not-is_row c =
    let x = c.args in
    row_tested x.states x.symbols (drop x.at x.text.now) c.due_line.result c.due_line.ensures _ (sym c.in_ok-ok.ensures.value) false
    (sym c.is_row.ensures ∙ c.if-not-is_row.true)

pub returns : goal.returns
returns c =
    let x = c.args in
    row_tested x.states x.symbols (drop x.at x.text.now) c.due_line.result c.due_line.ensures _ (sym c.in_ok-ok.ensures.value) true
    (sym c.is_row.ensures ∙ c.if-not-is_row.false)
