-- Planning comes to the one plan and number of passes that the sentences of document 01 allow: its test of plans says `Faithful`.
-- Assumes nothing.
use Rattle.job.specs.Search.{faithful}
use Rattle.planning.specs.PlanningSays.{PlanningSays}
use Rattle.job.proofs.Decide.{faithful_says}
use Rattle.planning.proofs.PlanningResult.{planned_relation, planned_unique}

-- the result, and that it is the only one
pub planning_says : PlanningSays
planning_says =
    record {
      passes = λ j wf. planned_relation (faithful j) j (faithful_says wf);
      only_result = λ j wf plan passes h. planned_unique (faithful j) j (faithful_says wf) h;
    }
