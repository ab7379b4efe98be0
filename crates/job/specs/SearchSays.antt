-- What the tests of `Search.antt` say in walks: the statement, with a theorem in `proofs/`.
-- Assumes nothing.
use Rattle.std.specs.Prelude.{◌≡◌, ◌↔◌, true, false, List, ℕ, ◌<◌, length}
use Rattle.job.specs.Job.{Job, WellFormedJob}
use Rattle.job.specs.Plan.{enables, Faithful, Different}
use Rattle.job.specs.Search.{faithful, arrives, apart}
use Rattle.job.specs.Found.{Arrives, Apart, Equivalent}

-- for every well-formed job the tests decide what its walks define; `apart` is asked of nodes and states that the job has
pub record SearchSays : Type 0 where
  pub faithful_says : (j : Job) → WellFormedJob j → (plan : List ℕ) → (faithful j plan ≡ true) ↔ Faithful j (enables plan)
  pub different_says : (j : Job) → WellFormedJob j → (plan : List ℕ) → (faithful j plan ≡ false) ↔ Different j (enables plan)
  pub arrives_says : (j : Job) → WellFormedJob j → (n q : ℕ) → (arrives j n q ≡ true) ↔ Arrives j n q
  pub apart_says
      : (j : Job) → WellFormedJob j → (n p q : ℕ) → n < length j.nodes → p < j.rule.states → q < j.rule.states
      → (apart j n p q ≡ true) ↔ Apart j n p q
  pub apart_not_says
      : (j : Job) → WellFormedJob j → (n p q : ℕ) → n < length j.nodes → p < j.rule.states → q < j.rule.states
      → (apart j n p q ≡ false) ↔ Equivalent j n p q
