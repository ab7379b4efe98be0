-- What the number that the reader returns says of the file's answer.
-- Assumes nothing.
use mathlib.Core.Path.{◌≡◌, refl, sym, ap, ◌∙◌}
use mathlib.Core.Logic.{⊎_elim}
use mathlib.Core.List.{List}
use Prim.Native.Nat.{ℕ, ◌≤◌}
use native.Mathlib.Omega.{arith}
use Rattle.job.specs.Job.{Job}
use Rattle.jobfile.specs.File.{Answer, accepted, turned, read_job}
use Rattle.jobfile.proofs.RefusalLaws.{turned_says}
use Rattle.jobfile.proofs.AnswerLaws.{turned_number}
use Rattle.jobhead.specs.Numbers.{HeadNumbers}
use Rattle.jobhead.specs.Reading.{head_of_answer, JobRead}

-- the number of a file that is turned back is not 0
turned_some : (file : List ℕ) (k : ℕ) → read_job file ≡ turned k → k ≡ 0 → ⊥
turned_some file k e z =
    ⊎_elim (λ (h : k ≡ 1). omega arith) (λ (h : (3 ≤ k) × (k ≤ 10)). omega (arith, h.0)) (turned_number ((turned_says file k).0 e))

module _ (file l m : List ℕ) (r : HeadNumbers) (read : JobRead (read_job file) l m r) where
  -- the reader's number is that of the answer
  number_read : (a : Answer) → read_job file ≡ a → r.refusal ≡ (head_of_answer a).refusal
  number_read a e = ap (λ (h : HeadNumbers). h.refusal) (read.exact ∙ ap head_of_answer e)

  -- a number other than 0 is the answer's
  pub turned_read : (r.refusal ≡ 0 → ⊥) → read_job file ≡ turned r.refusal
  turned_read h = go (read_job file) refl
    where
      go : (a : Answer) → read_job file ≡ a → read_job file ≡ turned r.refusal
      go (accepted j) e = absurd (h (number_read (accepted j) e))
      go (turned k) e = e ∙ ap turned (sym (number_read (turned k) e))

  -- 0 is that of a job
  pub accepted_read : r.refusal ≡ 0 → (j : Job) × (read_job file ≡ accepted j)
  accepted_read h = go (read_job file) refl
    where
      go : (a : Answer) → read_job file ≡ a → (j : Job) × (read_job file ≡ accepted j)
      go (accepted j) e = (j, e)
      go (turned k) e = absurd (turned_some file k e (sym (number_read (turned k) e) ∙ h))
