-- `ruleline::rule_line` meets its contract: nothing or no line, one of the three tests fails, or a row that is stored.
-- Assumes nothing.
use mathlib.Core.Path.{refl}
use lib.ListN.{drop}
use Rattle.std.proofs.lemmas.Result.{err_from_is_err_and}
use Rattle.ruleline.proofs.RuleLineLaws.{rule_stop, rule_place, rule_mark, rule_cells, cells_small, rule_passes}
use Rattle.ruleline.proofs.rule_line.Goals as goal

pub returns-in_err-due_line : goal.returns-in_err-due_line
returns-in_err-due_line c =
    let x = c.args in
    let e = err_from_is_err_and c.from_residual.result c.from_residual.ensures.1 in
    rw (e.1, e.2) (rule_stop x.states x.symbols x.q (drop x.at x.file.now) x.work.now c.in_err-due_line.ensures _ refl)

pub returns-then-numbers-place : goal.returns-then-numbers-place
returns-then-numbers-place c =
    let x = c.args in
    let d = c.in_ok-due_line in
    rule_place x.states x.symbols x.q (drop x.at x.file.now) x.work.now d.ensures refl c.if-numbers-place.true

pub returns-then-numbers-gt1 : goal.returns-then-numbers-gt1
returns-then-numbers-gt1 c =
    let x = c.args in
    let d = c.in_ok-due_line in
    rule_mark x.states x.symbols x.q (drop x.at x.file.now) x.work.now d.ensures refl c.if-numbers-gt1.true

pub returns-then-not-are_below : goal.returns-then-not-are_below
returns-then-not-are_below c =
    let x = c.args in
    let d = c.in_ok-due_line in
    let g = c.are_below in
    rule_cells x.states x.symbols x.q (drop x.at x.file.now) x.work.now d.ensures refl g.result g.ensures c.if-not-are_below.true

pub store_row-requires : goal.store_row-requires
store_row-requires c =
    let x = c.args in
    let d = c.in_ok-due_line in
    let p = c.requires in
    let g = c.are_below in (
      p.1.1.1.1,
      (
        p.1.0,
        cells_small x.states x.symbols x.q (drop x.at x.file.now) x.work.now d.ensures refl
            g.result g.ensures p.1.1.0 c.if-not-are_below.false,
      ),
    )

pub returns : goal.returns
returns c =
    let x = c.args in
    let d = c.in_ok-due_line in
    let g = c.are_below in
    rule_passes x.states x.symbols x.q (drop x.at x.file.now) x.work.now d.ensures refl
    g.result g.ensures _ c.if-numbers-place.false c.if-numbers-gt1.false c.if-not-are_below.false c.store_row.ensures
