-- `door::admit` meets its contract: refusals 1 and 2, the file's own with the work buffer cleared, then the job that was read.
-- Assumes nothing.
use mathlib.Core.Path.{◌≡◌, refl, sym, subst}
use mathlib.Core.List.{List}
use Prim.Native.Nat.{ℕ}
use Rattle.jobhead.specs.Numbers.{HeadNumbers}
use Rattle.jobfile.specs.File.{Answer}
use Rattle.refusal.proofs.RefusalLaws.{number_some}
use Rattle.admission.specs.Admitted.{Admitted}
use Rattle.admission.proofs.AdmissionLaws.{admit_long, admit_short_work, admit_short_other, admit_refused, admit_accepted}
use Rattle.door.proofs.admit.Goals as goal
use Rattle.door.proofs.admit.Goals.{then-work-lt-WORK-via-then-work-lt-WORK, then-work-lt-WORK-via-else-work-lt-WORK+then-short}

-- the buffer left is the one that it equals
left_as : {answer : Answer} {l m n : List ℕ} {h : HeadNumbers} → Admitted answer l m h → n ≡ m → Admitted answer l n h
left_as {answer} {l} {m} {n} {h} a f = subst (λ (x : List ℕ). Admitted answer l x h) (sym f) a

pub returns-then-file-gt-LONGEST : goal.returns-then-file-gt-LONGEST
returns-then-file-gt-LONGEST c =
    let x = c.args in
    admit_long x.file.now x.work.now x.short c.if-file-gt-LONGEST.true

pub returns-then-work-lt-WORK : goal.returns-then-work-lt-WORK
returns-then-work-lt-WORK c =
    let x = c.args in
    elim c.then-work-lt-WORK.branch [
      | then-work-lt-WORK-via-then-work-lt-WORK w ↦
          admit_short_work x.file.now x.work.now x.short c.if-file-gt-LONGEST.false w.if-work-lt-WORK.true
      | then-work-lt-WORK-via-else-work-lt-WORK+then-short w ↦
          admit_short_other x.file.now x.work.now x.short c.if-file-gt-LONGEST.false w.if-short.true
    ]

pub returns-in-Err : goal.returns-in-Err
returns-in-Err c =
    let x = c.args in
    left_as
    (admit_refused x.file.now x.work.now x.short c.if-file-gt-LONGEST.false c.if-work-lt-WORK.false c.if-short.false
    _ _ c.in-Err.ensures.read (number_some _))
    c.clear.ensures

pub returns-in-Ok : goal.returns-in-Ok
returns-in-Ok c =
    let x = c.args in
    admit_accepted x.file.now x.work.now x.short c.if-file-gt-LONGEST.false c.if-work-lt-WORK.false c.if-short.false
    _ _ c.in-Ok.ensures.read refl
