-- `analysis::find` meets its contract: each part is found in its place, and the later searches leave it there.
-- Assumes nothing.
use Rattle.classes.proofs.AfterLaws.{after_usable}
use Rattle.found.proofs.FoundLaws.{before_usable, plan_usable, all_found}
use Rattle.analysis.proofs.find.Goals as goal

pub find_before-requires : goal.find_before-requires
find_before-requires c =
    after_usable c.requires.1 c.after_words.ensures

pub make_plan-counts-requires : goal.make_plan-counts-requires
make_plan-counts-requires c =
    let p = c.requires in
    (p.0, before_usable p.1 c.after_words.ensures c.find_before.ensures)

pub grow_classes-requires : goal.grow_classes-requires
grow_classes-requires c =
    plan_usable c.requires.1 c.after_words.ensures c.find_before.ensures c.make_plan-counts.ensures

pub returns : goal.returns
returns c =
    all_found c.requires.1 c.after_words.ensures c.find_before.ensures c.make_plan-counts.ensures
    c.grow_classes.ensures
