-- The verdicts of the plan check say what the walks of the job define, and are read back from the number.
-- Why: past all refusals the verdict is the test `faithful`, which decides whether a walk shows a difference.
-- Assumes nothing.
use Rattle.std.specs.Prelude.{Result, Ok, Err}
use mathlib.Core.Path.{◌≡◌, refl, sym, ap, ◌∙◌, subst}
use mathlib.Core.Logic.{⊎_elim, ◌↔◌}
use mathlib.Core.Bool.{Bool, true, false, cond}
use mathlib.Core.List.{List}
use Prim.Native.Nat.{ℕ, zero, suc, ◌+◌, ◌≤◌, ◌<◌}
use native.Mathlib.Omega.{arith}
use lib.Dec.{eqb, leb, ltb}
use lib.ListN.{length, get_or}
use borrow.Author.Tests.{ltb-true, ltb-false, leb-true, eqb-true, eqb-false, ne_eqb}
use Rattle.laws.proofs.Bounded.{all_at, all_of}
use Rattle.laws.proofs.Tests.{passes_or_fails}
use Rattle.callnumber.specs.CallNumber.{accepted_from}
use Rattle.job.specs.Job.{Kind, is_event, Job, node_at, WellFormedJob}
use Rattle.job.specs.Search.{faithful}
use Rattle.job.proofs.Decide.{faithful_says, different_says}
use Rattle.jobfile.specs.File.{Answer, accepted, turned, max_file, read_job}
use Rattle.jobfile.proofs.SpellableLaws.{read_written}
use Rattle.buffer.specs.Buffer.{work_size, cleared}
use Rattle.admission.specs.Admission.{admitted}
use Rattle.admission.proofs.AdmissionLaws.{admitted_small}
use Rattle.checking.specs.Checking.{good_mark, has_length, good_marks, judged, answered, checked, work_left, verdict_number}
use Rattle.checking.specs.CheckingSays.{MarkFor, unwatched, watched, Admissible, SaysFaithful, SaysDifferent, WorkBufferSays, verdict_read, VerdictByNumber}
use Rattle.checking.proofs.CheckLaws.{marks, judged_11, judged_12, judged_verdict, checked_1, checked_2, checked_read}
use Rattle.checking.specs.declared.check.Verdict.{Verdict}
use Rattle.checking.specs.declared.check.Verdict.TheVariants.{Faithful, Different}

-- ---- plan bytes

-- a byte that passes the test is one of those
good_mark_lem : (k : Kind) (b : ℕ) → good_mark k b ≡ true → MarkFor k b
good_mark_lem k b h = go b (is_event k) refl h
  where
    go : (b : ℕ) (e : Bool) → is_event k ≡ e → cond e (leb b 1) (eqb b 0) ≡ true → MarkFor k b
    go b false is h = subst (λ (x : ℕ). MarkFor k x) (sym (eqb-true b 0 h)) unwatched
    go zero true is h = unwatched
    go (suc zero) true is h = watched is
    go (suc (suc b)) true is h = let small = leb-true (suc (suc b)) 1 h in absurd (omega arith)

-- and 0 passes everywhere
zero_good : (k : Kind) → good_mark k 0 ≡ true
zero_good k = go (is_event k)
  where
    go : (e : Bool) → cond e (leb 0 1) (eqb 0 0) ≡ true
    go true = refl
    go false = refl

-- those pass
pub mark_good : {k : Kind} {b : ℕ} → MarkFor k b → good_mark k b ≡ true
mark_good (unwatched {k}) = zero_good k
mark_good (watched is) = rw is refl

-- the test of all bytes in words
pub marks_say : (j : Job) (plan : List ℕ) → (good_marks j plan ≡ true) ↔ ((n : ℕ) → n < length j.nodes → MarkFor (node_at j n).kind (get_or plan n 0))
marks_say j plan = (
  λ g n i. good_mark_lem (node_at j n).kind (get_or plan n 0) (all_at (length j.nodes) (marks plan (node_at j)) g n i),
  λ m. all_of (length j.nodes) (marks plan (node_at j)) (λ n i. mark_good (m n i)),
)

-- ---- verdicts

-- the verdict of a test
abbrev verdict : Bool → Result Verdict ℕ
verdict b = cond b (Ok Faithful) (Ok Different)

-- verdicts have numbers of their own, and a refusal another
abbrev tag : Result Verdict ℕ → ℕ
tag (Ok Faithful) = 0
tag (Ok Different) = 1
tag (Err k) = 2

-- a refusal is no verdict
refused_not : (k : ℕ) (b : Bool) → Err k ≡ verdict b → ⊥
refused_not k true e = let z : ◌≡◌ {A = ℕ} 2 0 = ap tag e in omega arith
refused_not k false e = let z : ◌≡◌ {A = ℕ} 2 1 = ap tag e in omega arith

-- two verdicts that are one are of one test
verdict_same : (a b : Bool) → verdict a ≡ verdict b → a ≡ b
verdict_same true true e = refl
verdict_same true false e = let z : ◌≡◌ {A = ℕ} 0 1 = ap tag e in absurd (omega arith)
verdict_same false true e = let z : ◌≡◌ {A = ℕ} 1 0 = ap tag e in absurd (omega arith)
verdict_same false false e = refl

-- ---- the check

-- no refusal, and the test has this answer
abbrev Passed : List ℕ → List ℕ → ℕ → Bool → Type 0
Passed file plan size b = (j : Job) × Admissible file plan size j × (faithful j plan ≡ b)

module _ (file plan : List ℕ) (size : ℕ) (b : Bool) where
  -- from a verdict on a job
  passed_job
      : length file ≤ max_file → work_size ≤ size → (j : Job) → read_job file ≡ accepted j → judged j plan ≡ verdict b → Passed file plan size b
  passed_job short room j spells h =
      ⊎_elim
      (λ (l : eqb (length plan) (length j.nodes) ≡ true).
      ⊎_elim
      (λ (g : good_marks j plan ≡ true).
      let bytes : length plan ≡ length j.nodes = eqb-true (length plan) (length j.nodes) l in (
        j,
        record {
          short = short;
          room = room;
          spells = spells;
          bytes = bytes;
          marks = (marks_say j plan).0 g;
        },
        verdict_same (faithful j plan) b (sym (judged_verdict j plan (faithful j plan) bytes g refl) ∙ h),
      ))
      (λ (g : good_marks j plan ≡ false).
      absurd (refused_not 12 b (sym (judged_12 j plan (eqb-true (length plan) (length j.nodes) l) g) ∙ h)))
      (passes_or_fails (good_marks j plan)))
      (λ (l : eqb (length plan) (length j.nodes) ≡ false).
      absurd (refused_not 11 b (sym (judged_11 j plan (eqb-false (length plan) (length j.nodes) l)) ∙ h)))
      (passes_or_fails (eqb (length plan) (length j.nodes)))

  -- from a verdict on a file
  passed_file : length file ≤ max_file → work_size ≤ size → answered (read_job file) plan ≡ verdict b → Passed file plan size b
  passed_file short room h = go (read_job file) refl
    where
      go : (a : Answer) → read_job file ≡ a → Passed file plan size b
      go (accepted j) e = passed_job short room j e (sym (ap (λ (a : Answer). answered a plan) e) ∙ h)
      go (turned k) e = absurd (refused_not k b (sym (ap (λ (a : Answer). answered a plan) e) ∙ h))

  -- from a verdict
  passed : checked file plan size ≡ verdict b → Passed file plan size b
  passed h =
      ⊎_elim
      (λ (l : ltb max_file (length file) ≡ true). absurd (refused_not 1 b (checked_1 file plan size (ltb-true max_file (length file) l) ∙ h)))
      (λ (l : ltb max_file (length file) ≡ false).
      let short = ltb-false max_file (length file) l in
      ⊎_elim
      (λ (g : ltb size work_size ≡ true). absurd (refused_not 2 b (checked_2 file plan size short (ltb-true size work_size g) ∙ h)))
      (λ (g : ltb size work_size ≡ false).
      let room = ltb-false size work_size g in passed_file short room (sym (checked_read file plan size room) ∙ h))
      (passes_or_fails (ltb size work_size)))
      (passes_or_fails (ltb max_file (length file)))

  -- and back
  passed_verdict : Passed file plan size b → checked file plan size ≡ verdict b
  passed_verdict p =
      let j = p.0 in
      let a = p.1 in
      checked_read file plan size a.room
      ∙ ap (λ (x : Answer). answered x plan) a.spells
      ∙ judged_verdict j plan b a.bytes ((marks_say j plan).1 a.marks) p.2

-- a job that a file spells is well-formed
formed : {file plan : List ℕ} {size : ℕ} {j : Job} → Admissible file plan size j → WellFormedJob j
formed {file} {plan} {size} {j} a = (read_written file j a.spells).1.well_formed_holds

-- faithful is said of faithful plans
pub verdict_faithful : SaysFaithful
verdict_faithful file plan size = (
  λ h. let p = passed file plan size true h in (p.0, p.1, (faithful_says (formed p.1) plan).0 p.2),
  λ r. passed_verdict file plan size true (r.0, r.1, (faithful_says (formed r.1) plan).1 r.2),
)

-- different is said of plans for which a walk shows a difference
pub verdict_different : SaysDifferent
verdict_different file plan size = (
  λ h. let p = passed file plan size false h in (p.0, p.1, (different_says (formed p.1) plan).0 p.2),
  λ r. passed_verdict file plan size false (r.0, r.1, (different_says (formed r.1) plan).1 r.2),
)

-- ---- the work buffer

-- what an answer leaves of it
pub work_buffer_says : WorkBufferSays
work_buffer_says = record { left_by_1 = λ work. refl; left_by_2 = λ work. refl; cleared_else = else }
  where
    else : (v : Result Verdict ℕ) (work : List ℕ) → (v ≡ Err 1 → ⊥) → (v ≡ Err 2 → ⊥) → work_left v work ≡ cleared work
    else (Ok Faithful) work a b = refl
    else (Ok Different) work a b = refl
    else (Err zero) work a b = refl
    else (Err (suc zero)) work a b = absurd (a refl)
    else (Err (suc (suc zero))) work a b = absurd (b refl)
    else (Err (suc (suc (suc k)))) work a b = refl

-- ---- the number

-- a refusal's number is small
abbrev SmallRefusal : Result Verdict ℕ → Type 0
SmallRefusal (Ok Faithful) = Unit {0}
SmallRefusal (Ok Different) = Unit {0}
SmallRefusal (Err k) = k ≤ 15

-- of a job's plan
judged_small : (j : Job) (plan : List ℕ) → SmallRefusal (judged j plan)
unfolding judged
judged_small j plan = go (has_length j plan) (good_marks j plan) (faithful j plan)
  where
    go : (a b c : Bool) → SmallRefusal (cond a (cond b (cond c (Ok Faithful) (Ok Different)) (Err 12)) (Err 11))
    go true true true = tt
    go true true false = tt
    go true false c = omega arith
    go false b c = omega arith

-- of a file
checked_small : (file plan : List ℕ) (size : ℕ) → SmallRefusal (checked file plan size)
unfolding checked
checked_small file plan size = go (admitted file (ltb size work_size)) refl
  where
    go : (a : Answer) → admitted file (ltb size work_size) ≡ a → SmallRefusal (answered a plan)
    go (accepted j) e = judged_small j plan
    go (turned k) e = omega (arith, admitted_small file (ltb size work_size) k e)

-- a verdict with a small refusal is read back
read_small : (v : Result Verdict ℕ) → SmallRefusal v → verdict_read (verdict_number v) ≡ v
read_small (Ok Faithful) s = refl
read_small (Ok Different) s = refl
read_small (Err k) s = simp (ne_eqb k accepted_from (λ e. omega arith), ne_eqb k (accepted_from + 1) (λ e. omega arith))

-- the verdict is read back
pub verdict_by_number : VerdictByNumber
verdict_by_number file plan size = read_small (checked file plan size) (checked_small file plan size)
