-- The plan check (document 01, "What is found at a point" and "Turned back, by number").
-- Assumes nothing.
use Rattle.std.specs.Prelude.{Result, Ok, Err, Bool, cond, List, ℕ, ◌+◌, eqb, leb, ltb, length, get_or}
use Rattle.laws.specs.Bounded.{all_below}
use Rattle.callnumber.specs.CallNumber.{accepted_from}
use Rattle.job.specs.Job.{Kind, is_event, Job, node_at}
use Rattle.job.specs.Search.{faithful}
use Rattle.jobfile.specs.File.{Answer, accepted, turned}
use Rattle.buffer.specs.Buffer.{work_size, cleared}
use Rattle.admission.specs.Admission.{admitted, refused_left}
use Rattle.checking.specs.declared.check.Verdict.{Verdict}
use Rattle.checking.specs.declared.check.Verdict.TheVariants.{Faithful, Different}

-- a plan byte that a node may have: 0, and 1 at an event node
abbrev pub good_mark : Kind → ℕ → Bool
good_mark k b = cond (is_event k) (leb b 1) (eqb b 0)

-- a byte for each node
abbrev pub has_length : Job → List ℕ → Bool
has_length j plan = eqb (length plan) (length j.nodes)

-- each of them one that its node may have
abbrev pub good_marks : Job → List ℕ → Bool
good_marks j plan = all_below (length j.nodes) (λ n. good_mark (node_at j n).kind (get_or plan n 0))

-- the answer for a job that was accepted: 11, 12, or the plan's verdict
unfoldable pub judged : Job → List ℕ → Result Verdict ℕ
judged j plan =
    cond (has_length j plan) (cond (good_marks j plan) (cond (faithful j plan) (Ok Faithful) (Ok Different)) (Err 12)) (Err 11)

-- the answer for a file that was read
abbrev pub answered : Answer → List ℕ → Result Verdict ℕ
answered (turned k) plan = Err k
answered (accepted j) plan = judged j plan

-- the answer of the plan check; size is the length of the work buffer
unfoldable pub checked : List ℕ → List ℕ → ℕ → Result Verdict ℕ
unfolding judged
checked file plan size = answered (admitted file (ltb size work_size)) plan

-- the work buffer after an answer
abbrev pub work_left : Result Verdict ℕ → List ℕ → List ℕ
work_left (Ok Faithful) work = cleared work
work_left (Ok Different) work = cleared work
work_left (Err k) work = refused_left k work

-- "faithful is 2^48, different is 2^48 plus 1, a refusal is its number"
abbrev pub verdict_number : Result Verdict ℕ → ℕ
verdict_number (Ok Faithful) = accepted_from
verdict_number (Ok Different) = accepted_from + 1
verdict_number (Err k) = k
