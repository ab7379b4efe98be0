-- `planheld::plan_held` meets its contract: after words, planning, and the plan copied.
-- Assumes nothing.
use Rattle.tables.proofs.JobKeptLaws.{table_usable}
use Rattle.classes.proofs.AfterLaws.{after_usable}
use Rattle.planheld.proofs.HeldLaws.{planned_held}
use Rattle.planheld.proofs.plan_held.Goals as goal

pub after_words-requires : goal.after_words-requires
after_words-requires c =
    table_usable c.table_in-table.ensures c.requires.1.1

pub make_plan-counts-requires : goal.make_plan-counts-requires
make_plan-counts-requires c =
    let p = c.requires in
    (p.0, after_usable (table_usable c.table_in-table.ensures p.1.1) c.after_words.ensures)

pub returns : goal.returns
returns c =
    planned_held c.table_in-table.ensures c.requires.1.1 c.after_words.ensures c.make_plan-counts.ensures
    c.copy_plan.ensures
