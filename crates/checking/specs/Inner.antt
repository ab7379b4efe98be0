-- What the parts of the plan check leave.
-- Inner contracts: what functions ask of and leave to each other. No promise is stated in them; a reader need not believe them.
-- Assumes nothing.
use Rattle.std.specs.Prelude.{Result, ◌≡◌, List, ℕ, ◌+◌, ◌<◌, get_or}
use Rattle.job.specs.Job.{Job}
use Rattle.buffer.specs.Buffer.{work_size}
use Rattle.buffer.specs.Layout.{nodes_part, plan_part, rule_part}
use Rattle.buffer.specs.Kept.{SameOutside}
use Rattle.tables.specs.Held.{JobHeld}
use Rattle.checking.specs.Checking.{judged}
use Rattle.checking.specs.declared.check.Verdict.{Verdict}

-- the plan was stored in its part of the buffer
pub record PlanStored (plan l m : List ℕ) (nodes : ℕ) : Type 0 where
  pub kept : SameOutside l m plan_part rule_part
  pub here : (n : ℕ) → n < nodes → get_or m (plan_part + n) 0 ≡ get_or plan n 0

-- the answer for every job that the buffer holds; the bytes past the first 65,536 are as they were
pub record Judged (table : List (List ℕ)) (finals states nodes : ℕ) (plan l m : List ℕ) (answer : Result Verdict ℕ) : Type 0 where
  pub kept : SameOutside l m nodes_part work_size
  pub exact : (j : Job) → JobHeld j l table finals states nodes → answer ≡ judged j plan
