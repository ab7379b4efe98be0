-- Laws of admission: the tests in their order, and each way out of the function that admits.
-- Assumes nothing.
use mathlib.Core.Path.{◌≡◌, refl, sym, ap, ◌∙◌, subst}
use mathlib.Core.Logic.{inr}
use mathlib.Core.Bool.{Bool, true, false, cond, ◌||◌}
use mathlib.Core.List.{List}
use Prim.Native.Nat.{ℕ, zero, suc, ◌^◌, ◌≤◌, ◌<◌}
use native.Mathlib.Nat.{lt_of_lt_of_le, lt_irrefl}
use native.Mathlib.Omega.{arith}
use lib.Dec.{ltb}
use lib.ListN.{length}
use borrow.Author.Tests.{lt-ltb, le-ltb}
use Rattle.laws.proofs.Tests.{or_left, or_right, or_fails}
use Rattle.laws.proofs.Bits.{members_below}
use Rattle.job.specs.Job.{Job}
use Rattle.lines.specs.Lines.{LineKind}
use Rattle.lines.specs.Written.{BadLine, ended, malformed, outside}
use Rattle.jobfile.specs.File.{Answer, accepted, turned, max_file, read_job}
use Rattle.jobfile.specs.Refusal.{TurnedBack, too_long, at_head, at_rule, at_node, at_Edge, bytes_follow, no_entry}
use Rattle.jobfile.proofs.RefusalLaws.{turned_says}
use Rattle.jobfile.proofs.ListingFits.{listing_fits}
use Rattle.jobfile.proofs.SpellableLaws.{read_written}
use Rattle.buffer.specs.Buffer.{work_size, cleared}
use Rattle.buffer.specs.Layout.{nodes_part, Lent}
use Rattle.buffer.specs.Kept.{SameOutside}
use Rattle.jobhead.specs.Numbers.{HeadNumbers, refused_head}
use Rattle.jobhead.specs.Reading.{head_of_answer, JobRead, SameRest}
use Rattle.buffer.proofs.ClearedLaws.{cleared_same}
use Rattle.admission.specs.Admission.{admitted, refused_left}
use Rattle.admission.specs.Admitted.{Admitted}
use Rattle.admission.proofs.JobHeldLaws.{finals_read, usable_read, job_read}
use Rattle.admission.proofs.AnswerReadLaws.{turned_read, accepted_read}

-- ---- the answer

-- no answer is both
turned_or_accepted : (k : ℕ) (j : Job) → turned k ≡ accepted j → ⊥
turned_or_accepted k j e = let z : ◌≡◌ {A = ℕ} 0 1 = cc e in omega arith

module _ (file : List ℕ) (short : Bool) where
  -- a file that is too long
  pub admitted_long : max_file < length file → admitted file short ≡ turned 1
  unfolding admitted
  admitted_long h = simp (lt-ltb max_file (length file) h)

  -- a lent buffer that is too short
  pub admitted_short : length file ≤ max_file → short ≡ true → admitted file short ≡ turned 2
  unfolding admitted
  admitted_short h s = simp (le-ltb max_file (length file) h, s)

  -- with no buffer too short, what the file spells, which is 1 too where it is too long
  pub admitted_read : short ≡ false → admitted file short ≡ read_job file
  unfolding admitted read_job
  admitted_read s = rw s (go (ltb max_file (length file)) _)
    where
      go : (t : Bool) (x : Answer) → cond t (turned 1) (cond t (turned 1) x) ≡ cond t (turned 1) x
      go true x = refl
      go false x = refl

  -- a job is accepted only where no buffer is too short and the file spells it
  pub admitted_reads : (j : Job) → admitted file short ≡ accepted j → (short ≡ false) × (read_job file ≡ accepted j)
  unfolding admitted
  admitted_reads j e = go (ltb max_file (length file)) short e
    where
      go : (a b : Bool) → cond a (turned 1) (cond b (turned 2) (read_job file)) ≡ accepted j → (b ≡ false) × (read_job file ≡ accepted j)
      go true b e = absurd (turned_or_accepted 1 j e)
      go false true e = absurd (turned_or_accepted 2 j e)
      go false false e = (refl, e)

  -- so the file spells it
  pub admitted_spells : (j : Job) → admitted file short ≡ accepted j → read_job file ≡ accepted j
  admitted_spells j e = (admitted_reads j e).1

  -- the number of a refusal is small
  pub admitted_small : (k : ℕ) → admitted file short ≡ turned k → k ≤ 15
  unfolding admitted
  admitted_small k e = go (ltb max_file (length file)) short e
    where
      go : (a b : Bool) → cond a (turned 1) (cond b (turned 2) (read_job file)) ≡ turned k → k ≤ 15
      go true b e = let z : 1 ≡ k = cc e in omega arith
      go false true e = let z : 2 ≡ k = cc e in omega arith
      go false false e = omega (arith, listing_fits.turned_back file k e)

-- the tests of the lent buffers: the work buffer is too short
pub short_work : (work size other least : ℕ) → work < size → (ltb work size || ltb other least) ≡ true
short_work work size other least h = or_left (ltb work size) (ltb other least) (lt-ltb work size h)

-- the other buffer is
pub short_other : (work size other least : ℕ) → other < least → (ltb work size || ltb other least) ≡ true
short_other work size other least h = or_right (ltb work size) (ltb other least) (lt-ltb other least h)

-- none is
pub long_enough : (work size other least : ℕ) → size ≤ work → least ≤ other → (ltb work size || ltb other least) ≡ false
long_enough work size other least h g =
    or_fails (ltb work size) (ltb other least) (le-ltb work size h) (le-ltb other least g)

-- ---- what is left of the work buffer

-- a line is turned back by 3 or more
bad_past : {k : LineKind} {i r : ℕ} {before bytes : List ℕ} → 3 ≤ k.refusal → BadLine k i before bytes r → 3 ≤ r
bad_past low (ended none) = omega arith
bad_past low (malformed some none) = omega arith
bad_past low (outside l bad) = low

-- a file that is not too long is turned back by 3 or more
turned_past : {file : List ℕ} {r : ℕ} → length file ≤ max_file → TurnedBack file r → 3 ≤ r
turned_past h (too_long l) = absurd (lt_irrefl max_file (lt_of_lt_of_le l h))
turned_past h (at_head short f) = bad_past (omega arith) f.bad
turned_past h (at_rule p f) = bad_past (omega arith) f.bad
turned_past h (at_node p f) = bad_past (omega arith) f.bad
turned_past h (at_Edge p f) = bad_past (omega arith) f.bad
turned_past h (bytes_follow p some) = omega arith
turned_past h (no_entry p none) = omega arith

-- such a refusal leaves the buffer cleared
pub left_past : (k : ℕ) (work : List ℕ) → 3 ≤ k → refused_left k work ≡ cleared work
left_past zero work h = refl
left_past (suc zero) work h = absurd (omega arith)
left_past (suc (suc zero)) work h = absurd (omega arith)
left_past (suc (suc (suc k))) work h = refl

-- buffers that differ in the bytes that a call may use are cleared to the same
pub cleared_outside : (l m : List ℕ) → SameOutside l m nodes_part work_size → cleared m ≡ cleared l
cleared_outside l m s = cleared_same l m s.long (λ k h. s.outside k (inr h))

-- so is what the reader leaves, and what it was given
cleared_rest : (l m : List ℕ) → SameRest l m → cleared m ≡ cleared l
cleared_rest l m s = cleared_same l m s.long (λ k h. s.outside k (inr (omega arith), inr (omega arith)))

-- ---- the ways out of the function that admits

-- a refusal that leaves the buffer as the call leaves it
turned_admitted
    : {answer : Answer} (k : ℕ) (l m : List ℕ) → answer ≡ turned k → (k ≡ 0 → ⊥) → m ≡ refused_left k l → Admitted answer l m (refused_head k)
turned_admitted {answer} k l m e some left =
    subst (λ (a : Answer). Admitted a l m (refused_head k)) (sym e)
    (record { exact = refl; refused = λ h. left; job = λ h. absurd (some h) })

module _ (file l : List ℕ) (other : Bool) where
  -- the work buffer or the other is too short
  abbrev short : Bool
  short = ltb (length l) work_size || other

  -- refusal 1
  pub admit_long : max_file < length file → Admitted (admitted file short) l l (refused_head 1)
  admit_long h = turned_admitted 1 l l (admitted_long file short h) (λ e. omega arith) refl

  -- refusal 2 for the work buffer
  pub admit_short_work : length file ≤ max_file → length l < work_size → Admitted (admitted file short) l l (refused_head 2)
  admit_short_work h w =
      turned_admitted 2 l l (admitted_short file short h (or_left (ltb (length l) work_size) other (lt-ltb (length l) work_size w)))
      (λ e. omega arith) refl

  -- and for the other
  pub admit_short_other : length file ≤ max_file → other ≡ true → Admitted (admitted file short) l l (refused_head 2)
  admit_short_other h s =
      turned_admitted 2 l l (admitted_short file short h (or_right (ltb (length l) work_size) other s)) (λ e. omega arith) refl

  module _ (fits : length file ≤ max_file) (long : Lent l) (room : other ≡ false) (m : List ℕ) (r : HeadNumbers)
      (read : JobRead (read_job file) l m r) where
    -- the answer is what the file spells
    spells : admitted file short ≡ read_job file
    spells = admitted_read file short (or_fails (ltb (length l) work_size) other (le-ltb (length l) work_size long) room)

    -- a refusal of the file's own
    pub admit_refused : (r.refusal ≡ 0 → ⊥) → Admitted (admitted file short) l (cleared m) (refused_head r.refusal)
    admit_refused h =
        let e = turned_read file l m r read h in
        turned_admitted r.refusal l (cleared m) (spells ∙ e) h
        (cleared_rest l m read.kept ∙ sym (left_past r.refusal l (turned_past fits ((turned_says file r.refusal).0 e))))

    -- the final set has sixteen bits
    finals_fit : (j : Job) → read_job file ≡ accepted j → r.finals < 2 ^ 16
    finals_fit j e =
        let rule = (job_read file l m r read j e).formed.rule in
        subst (λ (s : ℕ). s < 2 ^ 16) (sym (finals_read file l m r read j e))
        (members_below 16 j.rule.finals (λ q g. lt_of_lt_of_le (rule.finals_below q g) rule.few_states))

    -- the job that was read
    pub admit_accepted : r.refusal ≡ 0 → Admitted (admitted file short) l m r
    admit_accepted h =
        let a = accepted_read file l m r read h in
        let held = job_read file l m r read a.0 a.1 in
        record {
          exact = read.exact ∙ ap head_of_answer (sym spells);
          refused = λ g. absurd (g h);
          job = λ g. record {
            job = a.0;
            is = spells ∙ a.1;
            held = held;
            usable = usable_read file l m r read a.0 a.1 (omega (arith, read.kept.long, long));
            some_node = omega (arith, held.nodes_are, (read_written file a.0 a.1).1.some_node);
            final_set = finals_fit a.0 a.1;
            clears = cleared_rest l m read.kept;
          };
        }
