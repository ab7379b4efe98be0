-- Laws of the plan in the work buffer, and of what planning leaves as it was.
-- A store of a plan byte is a byte of the plan set; a search leaves the plan; both leave the job and its after words.
-- Assumes nothing.
use mathlib.Core.Path.{◌≡◌, refl, sym, ap, ◌∙◌}
use mathlib.Core.Logic.{◌⊎◌, inl, inr, ⊎_elim}
use mathlib.Core.List.{List, [], ◌∷◌, ◌++◌}
use Prim.Native.Nat.{ℕ, ◌+◌, ◌≤◌, ◌<◌}
use native.Mathlib.Numerals.{add-one}
use native.Mathlib.Omega.{arith}
use lib.Dec.{eqb}
use lib.ListN.{length, get_or, take, drop, set, length-set, length-drop}
use lib.Seq.{take-suc, length-take-le, get_or-take, get_or-drop, take-set-lt, drop-set-add, get_or-set_other, ext_get_or}
use Rattle.buffer.proofs.KeptLaws.{kept_same, Kept-then, kept_fewer, outside_part}
use Rattle.job.specs.Job.{Job}
use Rattle.job.specs.Plan.{enables}
use Rattle.buffer.specs.Buffer.{work_size}
use Rattle.buffer.specs.Layout.{pair_part, plan_part, rule_part, Lent}
use Rattle.buffer.specs.Views.{node_in, enabled_in, plan_in}
use Rattle.buffer.specs.Kept.{SameOutside}
use Rattle.buffer.specs.ClassRows.{ClassesKept}
use Rattle.tables.specs.Tables.{SearchKept}
use Rattle.tables.specs.Held.{Usable, JobHeld, PlanHeld, AfterHeld}
use Rattle.tables.proofs.JobKeptLaws.{FrontKept, front_node, front_usable, front_job, after_words_kept}
use Rattle.passes.specs.Passes.{PlanningKept}

-- ---- the plan

-- a byte of the plan
pub plan_in_byte : (l : List ℕ) (nodes n : ℕ) → n < nodes → get_or (plan_in l nodes) n 0 ≡ get_or l (plan_part + n) 0
unfolding plan_in
plan_in_byte l nodes n h = get_or-take nodes (drop plan_part l) n 0 h ∙ get_or-drop plan_part l n 0

-- the plan has a byte for each node
pub plan_in_length : (l : List ℕ) (nodes : ℕ) → Lent l → nodes ≤ 512 → length (plan_in l nodes) ≡ nodes
unfolding plan_in
plan_in_length l nodes h k = length-take-le nodes (drop plan_part l) (omega (arith, length-drop plan_part l))

-- the plan of no node
pub plan_in_none : (l : List ℕ) → plan_in l 0 ≡ []
unfolding plan_in
plan_in_none l = refl

-- the plan of one node more
pub plan_in_more
    : (l : List ℕ) (n : ℕ) → Lent l → n < 512 → plan_in l (n + 1) ≡ plan_in l n ++ (get_or l (plan_part + n) 0 ∷ [])
unfolding plan_in
plan_in_more l n long few =
    rw add-one
    (take-suc (drop plan_part l) n 0 (omega (arith, length-drop plan_part l))
    ∙ ap (λ (b : ℕ). take n (drop plan_part l) ++ (b ∷ [])) (get_or-drop plan_part l n 0))

-- the buffer holds it
pub plan_in_held : (l : List ℕ) (nodes : ℕ) → PlanHeld (plan_in l nodes) l nodes
plan_in_held l nodes n h = sym (plan_in_byte l nodes n h)

-- a plan byte is stored
pub plan_in_set : (l : List ℕ) (nodes n v : ℕ) → n < nodes → plan_in (set l (plan_part + n) v) nodes ≡ set (plan_in l nodes) n v
unfolding plan_in
plan_in_set l nodes n v h = ap (take nodes) (drop-set-add plan_part l n v) ∙ take-set-lt nodes (drop plan_part l) n v h

-- what it enables is what the buffer enables
pub plan_in_enables : (l : List ℕ) (nodes n : ℕ) → n < nodes → enables (plan_in l nodes) n ≡ enabled_in l n
unfolding enabled_in
plan_in_enables l nodes n h = ap (λ (x : ℕ). eqb x 1) (plan_in_byte l nodes n h)

-- buffers of one length that agree on its bytes have the same plan
pub plan_in_same
    : (l m : List ℕ) (nodes : ℕ) → length m ≡ length l → ((k : ℕ) → plan_part ≤ k → k < rule_part → get_or m k 0 ≡ get_or l k 0)
    → Lent l → nodes ≤ 512 → plan_in m nodes ≡ plan_in l nodes
plan_in_same l m nodes same s h k =
    let long = plan_in_length m nodes (omega (arith, same)) k in
    ext_get_or 0 (plan_in m nodes) (plan_in l nodes) (long ∙ sym (plan_in_length l nodes h k))
    (λ i g.
    plan_in_byte m nodes i (omega (arith, long)) ∙ s (plan_part + i) (omega arith) (omega (arith, long))
    ∙ sym (plan_in_byte l nodes i (omega (arith, long))))

-- ---- what planning leaves as it was: composition

-- nothing is stored
pub planning_none : (l : List ℕ) → PlanningKept l l
planning_none l = kept_same l

-- one after another
pub planning_both : {l m k : List ℕ} → PlanningKept l m → PlanningKept m k → PlanningKept l k
planning_both a b = Kept-then (λ k o. (o, o)) a b

-- a search
pub planning_search : {l m : List ℕ} → SearchKept l m → PlanningKept l m
planning_search s = kept_fewer (λ k o. (o.0, outside_part (omega arith) (omega arith) k o.1)) s

-- stores of plan bytes
pub planning_plan : {l m : List ℕ} → SameOutside l m plan_part rule_part → PlanningKept l m
planning_plan s = kept_fewer (λ k o. outside_part (omega arith) (omega arith) k o.1) s

-- it leaves the bytes in front of the rows of pairs and past the first 65,536
pub planning_outside : {l m : List ℕ} → PlanningKept l m → SameOutside l m pair_part work_size
planning_outside s =
    kept_fewer (λ k o. (outside_part (omega arith) (omega arith) k o, outside_part (omega arith) (omega arith) k o)) s

-- a plan byte is stored
pub plan_stored : (l : List ℕ) (n v : ℕ) → n < 512 → SameOutside l (set l (plan_part + n) v) plan_part rule_part
plan_stored l n v h =
    record {
      long = length-set l (plan_part + n) v;
      outside = λ k o. get_or-set_other l (plan_part + n) k v 0 (λ e. outside_apart k o e);
    }
  where
    outside_apart : (k : ℕ) → (k < plan_part) ⊎ (rule_part ≤ k) → k ≡ plan_part + n → ⊥
    outside_apart k o e = ⊎_elim (λ (a : k < plan_part). omega arith) (λ (a : rule_part ≤ k). omega arith) o

-- ---- the job and its after words

module _ {l m : List ℕ} (s : PlanningKept l m) where
  -- the nodes and edges
  front : FrontKept l m
  front = kept_fewer (λ k h. (inl h, inl (omega arith))) s

  -- the class rows
  classes : ClassesKept l m
  classes = kept_fewer (λ k h. (inr h.0, inl (omega arith))) s

  -- a node
  pub node_kept : (n : ℕ) → n < 512 → node_in m n ≡ node_in l n
  node_kept = front_node front

  -- the bounds of all
  pub usable_kept : {table : List (List ℕ)} {states nodes : ℕ} → Usable l table states nodes → Usable m table states nodes
  usable_kept u = front_usable front u

  -- the job
  pub job_kept
      : {j : Job} {table : List (List ℕ)} {finals states nodes : ℕ} → Usable l table states nodes
      → JobHeld j l table finals states nodes → JobHeld j m table finals states nodes
  job_kept u h = front_job front u h

  -- the after words
  pub after_kept
      : {j : Job} {table : List (List ℕ)} {finals states nodes : ℕ} → Usable l table states nodes
      → JobHeld j l table finals states nodes → AfterHeld j l nodes → AfterHeld j m nodes
  after_kept u h a = after_words_kept l m classes h.formed u.few_nodes a
