-- What reading a job file returns, and what it leaves in the buffer.
-- Inner contracts: what functions ask of and leave to each other. No promise is stated in them; a reader need not believe them.
-- Assumes nothing.
use Rattle.std.specs.Prelude.{◌≡◌, ◌⊎◌, List, ℕ, suc, ◌≤◌, ◌<◌, length}
use Rattle.buffer.specs.Layout.{nodes_part, pair_part, rule_part, marks_part}
use Rattle.buffer.specs.Views.{start_in, cell_in}
use Rattle.buffer.specs.Kept.{Kept, Outside}
use Rattle.job.specs.Job.{Job}
use Rattle.jobfile.specs.File.{Answer, accepted, turned, read_job, max_file}
use Rattle.jobhead.specs.Numbers.{HeadNumbers, refused_head}
use Rattle.jobhead.specs.Stored.{job_in}

-- the numbers of an answer
abbrev pub head_of_answer : Answer → HeadNumbers
head_of_answer (turned k) = refused_head k
head_of_answer (accepted j) = record {
  refusal = 0;
  states = j.rule.states;
  symbols = j.rule.symbols;
  finals = j.rule.finals;
  nodes = length j.nodes;
  edges = length j.edges;
}

-- the bytes past the job's parts are as before
abbrev pub SameRest : List ℕ → List ℕ → Type 0
SameRest = Kept (λ k. Outside nodes_part pair_part k × Outside rule_part marks_part k)

-- the answer's numbers are returned; an accepted job is held by the buffer, with zeros in the rule's cells past S or A, and the starts
-- ascend up to the number of edges. Free are the bytes of the job's parts in which `job_in` does not tell two buffers apart: nodes and
-- starts past N, targets past E, the value of a plain node, kinds above 3 (they read as 3), exit marks above 1 (they read as 0); and
-- after a refusal other than 1 all bytes of these parts. The call that has the file read clears them
pub record JobRead (answer : Answer) (l m : List ℕ) (r : HeadNumbers) : Type 0 where
  pub exact : r ≡ head_of_answer answer
  pub held : (j : Job) → answer ≡ accepted j → job_in m r ≡ j
  pub zeros : r.refusal ≡ 0 → (q c : ℕ) → q < 16 → c < 16 → (r.states ≤ q) ⊎ (r.symbols ≤ c) → cell_in m q c ≡ 0
  pub starts : r.refusal ≡ 0 → (j : ℕ) → j ≤ r.nodes → start_in m j ≤ r.edges
  pub ascend : r.refusal ≡ 0 → (j : ℕ) → j < r.nodes → start_in m j ≤ start_in m (suc j)
  pub kept : SameRest l m

-- what reading a file leaves: after refusal 1 the buffer is as it was
pub record FileRead (file l m : List ℕ) (r : HeadNumbers) : Type 0 where
  pub read : JobRead (read_job file) l m r
  pub too_long : max_file < length file → m ≡ l
