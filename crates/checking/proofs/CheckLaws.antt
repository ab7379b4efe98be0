-- Laws of the plan check, in the shape of its code.
-- Assumes nothing.
use Rattle.std.specs.Prelude.{Result, Ok, Err}
use mathlib.Core.Path.{◌≡◌, refl, sym, ap, ◌∙◌, subst}
use mathlib.Core.Logic.{inr}
use mathlib.Core.Bool.{Bool, true, false, cond}
use mathlib.Core.List.{List}
use Prim.Native.Nat.{ℕ, ◌+◌, ◌≤◌, ◌<◌}
use native.Mathlib.Omega.{arith}
use lib.Dec.{eqb, ltb}
use lib.ListN.{length, get_or}
use borrow.Author.Tests.{lt-ltb, le-ltb, eq-eqb, ne_eqb}
use Rattle.laws.specs.Bounded.{all_below}
use Rattle.laws.proofs.Bounded.{all_cong}
use Rattle.job.specs.Job.{Job, Node, node_at}
use Rattle.job.specs.Search.{faithful}
use Rattle.jobfile.specs.File.{Answer, max_file, read_job}
use Rattle.buffer.specs.Buffer.{work_size, cleared}
use Rattle.buffer.specs.Layout.{nodes_part, class_part, found_part, plan_part, rule_part}
use Rattle.buffer.specs.Views.{node_in, rule_rows_in}
use Rattle.buffer.specs.Kept.{SameOutside}
use Rattle.buffer.proofs.KeptLaws.{kept_fewer, outside_part, kept_none, kept_both}
use Rattle.jobhead.specs.Numbers.{HeadNumbers}
use Rattle.tables.specs.Tables.{SearchKept}
use Rattle.tables.specs.Held.{Usable, JobHeld, PlanHeld}
use Rattle.tables.proofs.JobKeptLaws.{FrontKept, front_kept, front_usable, front_job, table_usable}
use Rattle.search.specs.Searched.{SearchedAt}
use Rattle.classes.specs.Backwards.{AfterWords}
use Rattle.classes.proofs.AfterLaws.{after_front}
use Rattle.admission.specs.Admission.{work_after}
use Rattle.admission.specs.Admitted.{Admitted}
use Rattle.admission.proofs.AdmissionLaws.{admitted_long, admitted_short, admitted_read, cleared_outside}
use Rattle.admission.proofs.CallLaws.{answer_refused}
use Rattle.checking.specs.Inner.{PlanStored, Judged}
use Rattle.checking.specs.Checking.{good_mark, judged, answered, checked, work_left}
use Rattle.checking.specs.declared.check.Verdict.{Verdict}
use Rattle.checking.specs.declared.check.Verdict.TheVariants.{Faithful, Different}

-- ---- the answer for a job

-- the node may have its plan byte
abbrev pub marks : List ℕ → (ℕ → Node) → ℕ → Bool
marks plan node n = good_mark (node n).kind (get_or plan n 0)

-- refusal 11
pub judged_11 : (j : Job) (plan : List ℕ) → (length plan ≡ length j.nodes → ⊥) → judged j plan ≡ Err 11
unfolding judged
judged_11 j plan h = simp (ne_eqb (length plan) (length j.nodes) h)

-- refusal 12
pub judged_12
    : (j : Job) (plan : List ℕ) → length plan ≡ length j.nodes → all_below (length j.nodes) (marks plan (node_at j)) ≡ false
    → judged j plan ≡ Err 12
unfolding judged
judged_12 j plan h g = simp (eq-eqb (length plan) (length j.nodes) h, g)

-- the verdict
pub judged_verdict
    : (j : Job) (plan : List ℕ) (b : Bool) → length plan ≡ length j.nodes
    → all_below (length j.nodes) (marks plan (node_at j)) ≡ true → faithful j plan ≡ b → judged j plan ≡ cond b (Ok Faithful) (Ok Different)
unfolding judged
judged_verdict j plan b h g e = simp (eq-eqb (length plan) (length j.nodes) h, g, e)

-- as many tests on the same nodes
pub marks_same
    : (plan : List ℕ) (x y : ℕ → Node) (m n : ℕ) → m ≡ n → ((k : ℕ) → k < m → x k ≡ y k) → all_below m (marks plan x) ≡ all_below n (marks plan y)
marks_same plan x y m n e h =
    all_cong m (marks plan x) (marks plan y) (λ k l. ap (λ (z : Node). good_mark z.kind (get_or plan k 0)) (h k l))
    ∙ ap (λ (k : ℕ). all_below k (marks plan y)) e

-- the tests on the buffer's nodes are those on the job's
marks_held
    : (j : Job) (plan l : List ℕ) (table : List (List ℕ)) (finals states nodes : ℕ) → JobHeld j l table finals states nodes
    → all_below nodes (marks plan (node_in l)) ≡ all_below (length j.nodes) (marks plan (node_at j))
marks_held j plan l table finals states nodes h = marks_same plan (node_in l) (node_at j) nodes (length j.nodes) h.nodes_are h.node

module _ (plan l : List ℕ) (table : List (List ℕ)) (finals states nodes : ℕ) where
  -- the plan has another length
  pub other_length : (length plan ≡ nodes → ⊥) → Judged table finals states nodes plan l l (Err 11)
  other_length h = record {
    kept = kept_none l nodes_part work_size;
    exact = λ j held. sym (judged_11 j plan (λ e. h (e ∙ sym held.nodes_are)));
  }

  -- a node may not have its byte
  pub other_marks
      : length plan ≡ nodes → all_below nodes (marks plan (node_in l)) ≡ false → Judged table finals states nodes plan l l (Err 12)
  other_marks h g = record {
    kept = kept_none l nodes_part work_size;
    exact = λ j held.
        sym (judged_12 j plan (h ∙ held.nodes_are) (sym (marks_held j plan l table finals states nodes held) ∙ g));
  }

-- the plan leaves the nodes and edges
stored_front : {plan l m : List ℕ} {nodes : ℕ} → PlanStored plan l m nodes → FrontKept l m
stored_front p = front_kept (omega arith) p.kept

-- the buffer with the plan may be searched
pub stored_usable
    : {plan l m : List ℕ} {table : List (List ℕ)} {states nodes : ℕ} → Usable l table states nodes → PlanStored plan l m nodes
    → Usable m table states nodes
stored_usable u p = front_usable (stored_front p) u

module _ (plan l m k f : List ℕ) (table : List (List ℕ)) (finals states nodes : ℕ) where
  -- the plan stays where the after words are filled in
  plan_held : nodes ≤ 512 → PlanStored plan l m nodes → AfterWords table finals states nodes m k → PlanHeld plan k nodes
  plan_held few p a n h = a.kept.outside (plan_part + n) (inr (omega arith)) ∙ p.here n h

  -- the search leaves the bytes past the first 65,536
  rest_kept
      : PlanStored plan l m nodes → AfterWords table finals states nodes m k → SearchKept k f → SameOutside l f nodes_part work_size
  rest_kept p a s =
      kept_both l k f nodes_part work_size nodes_part work_size
      (kept_both l m k nodes_part work_size class_part found_part
      (kept_both l l m nodes_part work_size plan_part rule_part (kept_none l nodes_part work_size) p.kept (omega arith) (omega arith))
      a.kept (omega arith) (omega arith))
      (kept_fewer (λ x o. (outside_part (omega arith) (omega arith) x o, outside_part (omega arith) (omega arith) x o)) s)
      (omega arith) (omega arith)

  -- the verdict of the search is the plan's
  pub search_judged
      : (rule : List (List ℕ)) (answer b : Bool) → table ≡ rule → Usable l rule states nodes → length plan ≡ nodes
      → all_below nodes (marks plan (node_in l)) ≡ true → PlanStored plan l m nodes → AfterWords table finals states nodes m k
      → SearchedAt table finals states nodes k f answer → answer ≡ b → Judged rule finals states nodes plan l f (cond b (Ok Faithful) (Ok Different))
  search_judged rule answer b same usable h g p a s e =
      subst (λ (t : List (List ℕ)). Judged t finals states nodes plan l f (cond b (Ok Faithful) (Ok Different))) same (record {
        kept = rest_kept p a s.kept;
        exact = λ j held.
            let u = table_usable same usable in
            let stored = front_job (stored_front p) u held in
            let searched = front_job (after_front a) (stored_usable u p) stored in
            let found = s.exact j plan searched (plan_held u.few_nodes p a) (a.exact j stored) in
            sym (judged_verdict j plan b (h ∙ held.nodes_are) (sym (marks_held j plan l table finals states nodes held) ∙ g)
            (sym found.exact ∙ e));
      })

-- ---- the answer for a file

-- refusal 1
pub checked_1 : (file plan : List ℕ) (size : ℕ) → max_file < length file → Err 1 ≡ checked file plan size
unfolding checked
checked_1 file plan size h = sym (ap (λ (a : Answer). answered a plan) (admitted_long file (ltb size work_size) h))

-- refusal 2
pub checked_2 : (file plan : List ℕ) (size : ℕ) → length file ≤ max_file → size < work_size → Err 2 ≡ checked file plan size
unfolding checked
checked_2 file plan size h g =
    sym (ap (λ (a : Answer). answered a plan) (admitted_short file (ltb size work_size) h (lt-ltb size work_size g)))

-- past both, the file's own
pub checked_read
    : (file plan : List ℕ) (size : ℕ) → work_size ≤ size → checked file plan size ≡ answered (read_job file) plan
unfolding checked
checked_read file plan size g =
    ap (λ (a : Answer). answered a plan) (admitted_read file (ltb size work_size) (le-ltb size work_size g))

-- the answer for a job leaves the buffer cleared
left_judged : (j : Job) (plan work : List ℕ) → work_left (judged j plan) work ≡ cleared work
unfolding judged
left_judged j plan work =
    go (eqb (length plan) (length j.nodes)) (all_below (length j.nodes) (marks plan (node_at j))) (faithful j plan)
  where
    go : (a b c : Bool) → work_left (cond a (cond b (cond c (Ok Faithful) (Ok Different)) (Err 12)) (Err 11)) work ≡ cleared work
    go true true true = refl
    go true true false = refl
    go true false c = refl
    go false b c = refl

-- a number of admission is the refusal
pub check_refused
    : {answer : Answer} {l m : List ℕ} {r : HeadNumbers} (plan : List ℕ) → Admitted answer l m r → (r.refusal ≡ 0 → ⊥)
    → (Err r.refusal ≡ answered answer plan) × (m ≡ work_left (Err r.refusal) l)
check_refused {answer} {l} plan a h =
    let e = answer_refused a h in (
      sym (ap (λ (x : Answer). answered x plan) e),
      a.refused h ∙ ap (λ (x : Answer). work_after x l) e,
    )

-- the answer for the job that was admitted, and the buffer is cleared
pub check_judged
    : {answer : Answer} {l m : List ℕ} {r : HeadNumbers} (plan k : List ℕ) (v : Result Verdict ℕ) → Admitted answer l m r → r.refusal ≡ 0
    → Judged (rule_rows_in m) r.finals r.states r.nodes plan m k v → (v ≡ answered answer plan) × (cleared k ≡ work_left v l)
check_judged {answer} {l} {m} plan k v a h g =
    let j = a.job h in
    let same : v ≡ judged j.job plan = g.exact j.job j.held in (
      same ∙ sym (ap (λ (x : Answer). answered x plan) j.is),
      cleared_outside m k g.kept ∙ j.clears ∙ sym (ap (λ (x : Result Verdict ℕ). work_left x l) same ∙ left_judged j.job plan l),
    )
