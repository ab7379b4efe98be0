-- `checkheld::judge` meets its contract: 11 and 12 by the tests, then the verdict of the search on the plan that was stored.
-- Assumes nothing.
use mathlib.Core.Path.{sym, ◌∙◌}
use mathlib.Core.Bool.{true, false}
use Rattle.buffer.specs.Views.{rule_rows_in}
use Rattle.tables.proofs.JobKeptLaws.{table_usable}
use Rattle.classes.proofs.AfterLaws.{after_usable}
use Rattle.checking.proofs.CheckLaws.{other_length, other_marks, stored_usable, search_judged}
use Rattle.checkheld.proofs.judge.Goals as goal

pub returns-then-plan-nodes : goal.returns-then-plan-nodes
returns-then-plan-nodes c =
    let x = c.args in
    other_length x.plan.now x.work.now (rule_rows_in x.work.now) x.finals x.states x.nodes c.if-plan-nodes.true

pub returns-then-not-is_plan : goal.returns-then-not-is_plan
returns-then-not-is_plan c =
    let x = c.args in
    other_marks x.plan.now x.work.now (rule_rows_in x.work.now) x.finals x.states x.nodes c.if-plan-nodes.false
    (sym c.is_plan.ensures ∙ c.if-not-is_plan.true)

pub after_words-requires : goal.after_words-requires
after_words-requires c =
    stored_usable (table_usable c.table_in-table.ensures c.requires) c.store_plan.ensures

pub is_faithful-requires : goal.is_faithful-requires
is_faithful-requires c =
    after_usable (stored_usable (table_usable c.table_in-table.ensures c.requires) c.store_plan.ensures)
    c.after_words.ensures

pub returns-then-is_faithful : goal.returns-then-is_faithful
returns-then-is_faithful c =
    let found = c.is_faithful in
    let x = c.args in
    search_judged x.plan.now x.work.now _ _ _ c.table_in-table.result x.finals x.states x.nodes (rule_rows_in x.work.now)
    found.result true c.table_in-table.ensures c.requires c.if-plan-nodes.false
    (sym c.is_plan.ensures ∙ c.if-not-is_plan.false) c.store_plan.ensures c.after_words.ensures
    found.ensures c.if-is_faithful.true

pub returns : goal.returns
returns c =
    let found = c.is_faithful in
    let x = c.args in
    search_judged x.plan.now x.work.now _ _ _ c.table_in-table.result x.finals x.states x.nodes (rule_rows_in x.work.now)
    found.result false c.table_in-table.ensures c.requires c.if-plan-nodes.false
    (sym c.is_plan.ensures ∙ c.if-not-is_plan.false) c.store_plan.ensures c.after_words.ensures
    found.ensures c.if-is_faithful.false
