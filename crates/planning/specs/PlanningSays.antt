-- What planning says in walks: the statement, with a theorem in `proofs/`.
-- Assumes nothing.
use Rattle.std.specs.Prelude.{◌≡◌, List, ℕ}
use Rattle.job.specs.Job.{Job, WellFormedJob}
use Rattle.planning.specs.Planning.{all_enabled, PassesTo}
use Rattle.planning.specs.Listing.{plan_of}

-- for every well-formed job: the plan and its number of passes are those that the sentences of document 01 come to, and the only ones
pub record PlanningSays : Type 0 where
  pub passes : (j : Job) → WellFormedJob j → PassesTo j (all_enabled j) (plan_of j).plan (plan_of j).passes
  pub only_result
      : (j : Job) → WellFormedJob j → (plan : List ℕ) (passes : ℕ) → PassesTo j (all_enabled j) plan passes
      → (plan ≡ (plan_of j).plan) × (passes ≡ (plan_of j).passes)
