-- What the function that admits a file and the lent buffers leaves to the call.
-- Inner contracts: what functions ask of and leave to each other. No promise is stated in them; a reader need not believe them.
-- Assumes nothing.
use Rattle.std.specs.Prelude.{◌≡◌, List, ℕ, ◌^◌, ◌≤◌, ◌<◌}
use Rattle.job.specs.Job.{Job}
use Rattle.jobfile.specs.File.{Answer, accepted}
use Rattle.buffer.specs.Buffer.{cleared}
use Rattle.jobhead.specs.Numbers.{HeadNumbers}
use Rattle.jobhead.specs.Reading.{head_of_answer}
use Rattle.buffer.specs.Views.{rule_rows_in}
use Rattle.tables.specs.Held.{Usable, JobHeld}
use Rattle.admission.specs.Admission.{work_after}

-- the job of the answer is held by the buffer m, which was l, as the searches read it
pub record JobAdmitted (answer : Answer) (l m : List ℕ) (r : HeadNumbers) : Type 0 where
  pub job : Job
  pub is : answer ≡ accepted job
  pub held : JobHeld job m (rule_rows_in m) r.finals r.states r.nodes
  pub usable : Usable m (rule_rows_in m) r.states r.nodes
  pub some_node : 1 ≤ r.nodes
  pub final_set : r.finals < 2 ^ 16
  pub clears : cleared m ≡ cleared l

-- the answer's numbers are returned; after a refusal the buffer is left as the call leaves it
pub record Admitted (answer : Answer) (l m : List ℕ) (r : HeadNumbers) : Type 0 where
  pub exact : r ≡ head_of_answer answer
  pub refused : (r.refusal ≡ 0 → ⊥) → m ≡ work_after answer l
  pub job : r.refusal ≡ 0 → JobAdmitted answer l m r
