-- The ways out of a call past admission, with the answer and what is left of the lent bytes; bytes written from the start of a buffer.
-- Assumes nothing.
use mathlib.Core.Path.{◌≡◌, refl, sym, ap, ◌∙◌, subst}
use mathlib.Core.Bool.{Bool, true, false, ◌||◌}
use mathlib.Core.List.{List}
use Prim.Native.Nat.{ℕ, ◌+◌, ◌≤◌}
use native.Mathlib.Omega.{arith}
use lib.Dec.{ltb}
use lib.ListN.{length, take, drop}
use lib.Seq.{sets, sets-eq, length-sets, take_at, drop_at}
use Rattle.job.specs.Job.{Job}
use Rattle.jobfile.specs.File.{Answer, accepted, turned}
use Rattle.buffer.specs.Buffer.{work_size, cleared}
use Rattle.buffer.specs.Layout.{nodes_part}
use Rattle.buffer.specs.Kept.{SameOutside}
use Rattle.jobhead.specs.Numbers.{HeadNumbers}
use Rattle.jobhead.specs.Reading.{head_of_answer}
use Rattle.buffer.specs.Views.{rule_rows_in}
use Rattle.tables.specs.Held.{JobHeld}
use Rattle.admission.specs.Admission.{admitted, work_after, WrittenFirst}
use Rattle.admission.specs.Admitted.{Admitted}
use Rattle.admission.proofs.AdmissionLaws.{cleared_outside}

-- what a call answers, and leaves of the work buffer and of the other lent buffer
abbrev pub Ends : {X : Type 0} → (Answer → X) → (Answer → List ℕ → List ℕ) → Answer → List ℕ → List ℕ → X → List ℕ → List ℕ → Type 0
Ends outcome after answer work other r work' other' =
    (r ≡ outcome answer) × (work' ≡ work_after answer work) × (other' ≡ after answer other)

-- where no buffer but the work buffer is tested, its test is the only one
pub admitted_alone
    : (file : List ℕ) (size : ℕ) {l m : List ℕ} {r : HeadNumbers} → Admitted (admitted file (ltb size work_size || false)) l m r
    → Admitted (admitted file (ltb size work_size)) l m r
admitted_alone file size {l} {m} {r} a = go (ltb size work_size) a
  where
    go : (b : Bool) → Admitted (admitted file (b || false)) l m r → Admitted (admitted file b) l m r
    go true a = a
    go false a = a

-- a number other than 0 is the answer's refusal
pub answer_refused : {answer : Answer} {l m : List ℕ} {r : HeadNumbers} → Admitted answer l m r → (r.refusal ≡ 0 → ⊥) → answer ≡ turned r.refusal
answer_refused {answer} {l} {m} {r} a h = go answer a.exact
  where
    go : (x : Answer) → r ≡ head_of_answer x → x ≡ turned r.refusal
    go (accepted j) e = absurd (h (ap (λ (y : HeadNumbers). y.refusal) e))
    go (turned k) e = ap turned (sym (ap (λ (y : HeadNumbers). y.refusal) e))

module _ {X : Type 0} (outcome : Answer → X) (after : Answer → List ℕ → List ℕ) {answer : Answer} {work m : List ℕ} {r : HeadNumbers}
    (other : List ℕ) (admitted : Admitted answer work m r) where
  -- an answer is what it equals
  ends_as
      : {a : Answer} {x : X} {work' other' : List ℕ} → answer ≡ a → Ends outcome after a work other x work' other'
      → Ends outcome after answer work other x work' other'
  ends_as {a} {x} {work'} {other'} e h = subst (λ (y : Answer). Ends outcome after y work other x work' other') (sym e) h

  -- a refusal
  pub ends_refused
      : (r.refusal ≡ 0 → ⊥) → Ends outcome after answer work other (outcome (turned r.refusal)) m (after (turned r.refusal) other)
  ends_refused h =
      let e = answer_refused admitted h in
      ends_as e (refl, admitted.refused h ∙ ap (λ (a : Answer). work_after a work) e, refl)

  -- the answer for the job that was admitted
  pub ends_accepted
      : r.refusal ≡ 0 → (k : List ℕ) (x : X) (other' : List ℕ) → SameOutside m k nodes_part work_size
      → ((j : Job) → JobHeld j m (rule_rows_in m) r.finals r.states r.nodes
      → (x ≡ outcome (accepted j)) × (other' ≡ after (accepted j) other))
      → Ends outcome after answer work other x (cleared k) other'
  ends_accepted h k x other' kept exact =
      let j = admitted.job h in
      let due = exact j.job j.held in
      ends_as j.is (due.0, cleared_outside m k kept ∙ j.clears, due.1)

-- bytes that are written stand first, and the rest is as it was
pub written_first
    : (n : ℕ) (bytes before : List ℕ) → length bytes ≡ n → n ≤ length before → WrittenFirst n bytes before (sets before 0 bytes)
written_first n bytes before count room =
    let whole = sets-eq bytes before 0 (omega arith) in
    let end : 0 + length bytes ≡ n = omega arith in
    record {
      count = count;
      first = ap (take n) whole ∙ take_at bytes (drop (0 + length bytes) before) n count;
      long = length-sets before 0 bytes;
      rest = ap (drop n) whole ∙ drop_at bytes (drop (0 + length bytes) before) n count ∙ ap (λ (k : ℕ). drop k before) end;
    }
