-- `planmaking::make_plan` meets its contract: all points watched, and then passes, which give the counts.
-- Assumes nothing.
use Rattle.passes.proofs.PlanInLaws.{planning_plan, usable_kept}
use Rattle.passes.proofs.EnabledLaws.{plan_made}
use Rattle.planmaking.proofs.make_plan.Goals as goal

pub passes-requires : goal.passes-requires
passes-requires c =
    let p = c.requires in
    let all = c.enable_all-shadows.ensures in
    (p.0, (usable_kept (planning_plan all.kept) p.1, all.carried))

pub returns : goal.returns
returns c =
    let u = c.requires.1 in
    plan_made u c.enable_all-shadows.ensures c.passes.ensures
