-- `rowscall::take_rows` meets its contract: 13 for a rule buffer of another length, 17 for the text's length, for S, A or the final set, or for a
-- row, 18, 19 where a pair has no mark, or the rule of the marks.
-- Assumes nothing.
use Rattle.std.proofs.lemmas.Result.{err_from_is_err_and}
use mathlib.Core.Path.{refl, sym, ◌∙◌}
use native.Mathlib.Omega.{arith}
use Rattle.refusal.proofs.RefusalLaws.{number_some}
use Rattle.automaton.proofs.AutomatonLaws.{numbers_fit_says}
use Rattle.rowscall.proofs.CallLaws.{rows_other_length, rows_too_long, rows_unfit, rows_refused, rows_missing, rows_accepted}
use Rattle.rowscall.proofs.take_rows.Goals as goal

pub returns-then-rule-ne-ROOM : goal.returns-then-rule-ne-ROOM
returns-then-rule-ne-ROOM c =
    let x = c.args in
    rows_other_length x.rows.now x.rule.now x.states x.symbols x.finals (λ e. omega (arith, e, c.if-rule-ne-ROOM.true))

pub returns-then-rows-gt-LONGEST : goal.returns-then-rows-gt-LONGEST
returns-then-rows-gt-LONGEST c =
    let x = c.args in
    rows_too_long x.rows.now x.rule.now x.states x.symbols x.finals (omega (arith, c.if-rule-ne-ROOM.false)) (omega (arith, c.if-rows-gt-LONGEST.true))

pub returns-then-not-do_numbers_fit : goal.returns-then-not-do_numbers_fit
returns-then-not-do_numbers_fit c =
    let x = c.args in
    rows_unfit x.rows.now x.rule.now x.states x.symbols x.finals (omega (arith, c.if-rule-ne-ROOM.false))
    (omega (arith, c.if-rows-gt-LONGEST.false)) (sym c.do_numbers_fit.ensures ∙ c.if-not-do_numbers_fit.true)

pub take_all-requires : goal.take_all-requires
take_all-requires c =
    let x = c.args in
    let fit = (numbers_fit_says x.states x.symbols x.finals).0 (sym c.do_numbers_fit.ensures ∙ c.if-not-do_numbers_fit.false) in
    (omega (arith, c.if-rows-gt-LONGEST.false), (fit.few_states, (fit.few_symbols, refl)))

pub returns-in_err-take_all : goal.returns-in_err-take_all
returns-in_err-take_all c =
    let x = c.args in
    let p = err_from_is_err_and c.from_residual.result c.from_residual.ensures.1 in
    rw (p.1, p.2)
    (rows_refused x.rows.now x.rule.now x.states x.symbols x.finals (omega (arith, c.if-rule-ne-ROOM.false))
    (omega (arith, c.if-rows-gt-LONGEST.false)) (sym c.do_numbers_fit.ensures ∙ c.if-not-do_numbers_fit.false) _ _
    c.in_err-take_all.ensures (number_some _))

pub is_missing-requires : goal.is_missing-requires
is_missing-requires c =
    let x = c.args in
    let fit = (numbers_fit_says x.states x.symbols x.finals).0 (sym c.do_numbers_fit.ensures ∙ c.if-not-do_numbers_fit.false) in
    (c.take_all.ensures.long, (fit.few_states, fit.few_symbols))

pub returns-then-is_missing : goal.returns-then-is_missing
returns-then-is_missing c =
    let x = c.args in
    rows_missing x.rows.now x.rule.now x.states x.symbols x.finals (omega (arith, c.if-rule-ne-ROOM.false))
    (omega (arith, c.if-rows-gt-LONGEST.false)) (sym c.do_numbers_fit.ensures ∙ c.if-not-do_numbers_fit.false) _ 0
    c.in_ok-take_all.ensures refl (sym c.is_missing.ensures ∙ c.if-is_missing.true)

pub returns : goal.returns
returns c =
    let x = c.args in
    rows_accepted x.rows.now x.rule.now x.states x.symbols x.finals (omega (arith, c.if-rule-ne-ROOM.false))
    (omega (arith, c.if-rows-gt-LONGEST.false)) (sym c.do_numbers_fit.ensures ∙ c.if-not-do_numbers_fit.false) _ 0
    c.in_ok-take_all.ensures refl (sym c.is_missing.ensures ∙ c.if-is_missing.false) _
    c.write_rule.ensures
