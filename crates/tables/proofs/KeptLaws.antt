-- Laws of what the searches leave in the buffer.
-- Assumes nothing.
use mathlib.Core.Path.{◌≡◌, refl, ap, ◌∙◌}
use mathlib.Core.Logic.{inl, inr, ⊎_elim}
use mathlib.Core.List.{List}
use Prim.Native.Nat.{ℕ, ◌+◌, ◌≤◌, ◌<◌}
use native.Mathlib.Nat.{le_refl}
use native.Mathlib.Omega.{arith}
use lib.Dec.{eqb}
use Rattle.buffer.proofs.KeptLaws.{kept_same, Kept-then, kept_fewer}
use Rattle.job.specs.Job.{Job}
use Rattle.buffer.specs.Layout.{plan_part}
use Rattle.buffer.specs.Views.{node_in, target_in, class_row_in, enabled_in}
use Rattle.buffer.specs.ClassRows.{ClassesKept}
use Rattle.buffer.proofs.ClassRowLaws.{class_row_kept}
use Rattle.tables.specs.Tables.{pairs_left, SearchKept, Grown}
use Rattle.tables.specs.Held.{Usable, JobHeld, PlanHeld}
use Rattle.tables.proofs.JobKeptLaws.{FrontKept, front_node, front_target, front_usable, front_job}

-- ---- composition

-- nothing is stored
pub search_kept_none : (l : List ℕ) → SearchKept l l
search_kept_none l = kept_same l

-- one after another
pub search_kept_both : {l m k : List ℕ} → SearchKept l m → SearchKept m k → SearchKept l k
search_kept_both a b = Kept-then (λ k o. (o, o)) a b

-- nothing has grown
pub grown_none : (l : List ℕ) → Grown l l
grown_none l = record {
  kept = search_kept_none l;
  held = λ n p q h g i. i;
  quiet = λ n p h g i. (i, refl);
  left = le_refl _;
  less = inl refl;
}

-- one growth after another
pub grown_both : {l m k : List ℕ} → Grown l m → Grown m k → Grown l k
grown_both {l} {m} {k} a b = record {
  kept = search_kept_both a.kept b.kept;
  held = λ n p q h g i. b.held n p q h g (a.held n p q h g i);
  quiet = λ n p h g i.
      let y = b.quiet n p h g i in
      let x = a.quiet n p h g y.0 in
      (x.0, y.1 ∙ x.1);
  left = omega (arith, a.left, b.left);
  less =
      ⊎_elim
      (λ (x : m ≡ l).
      ⊎_elim (λ (y : k ≡ m). inl (y ∙ x)) (λ (y : pairs_left k < pairs_left m). inr (omega (arith, a.left))) b.less)
      (λ (x : pairs_left m < pairs_left l). inr (omega (arith, b.left)))
      a.less;
}

-- ---- what a search leaves as it was

module _ {l m : List ℕ} (s : SearchKept l m) where
  -- the nodes and edges
  front : FrontKept l m
  front = kept_fewer (λ k h. (inl h, inl (omega arith))) s

  -- a node
  pub node_same : (n : ℕ) → n < 512 → node_in m n ≡ node_in l n
  node_same = front_node front

  -- where an edge ends
  pub target_same : (i : ℕ) → i < 2048 → target_in m i ≡ target_in l i
  target_same = front_target front

  -- the class rows
  classes : ClassesKept l m
  classes = kept_fewer (λ k h. (inr h.0, inl (omega arith))) s

  -- a class row
  pub class_same : (n p : ℕ) → n < 512 → p < 16 → class_row_in m n p ≡ class_row_in l n p
  class_same = class_row_kept l m classes

  -- the plan
  pub enabled_same : (n : ℕ) → n < 512 → enabled_in m n ≡ enabled_in l n
  unfolding enabled_in
  enabled_same n h = ap (λ (x : ℕ). eqb x 1) (s.outside (plan_part + n) (inr (omega arith), inl (omega arith)))

  -- the bounds of all
  pub usable_same : {table : List (List ℕ)} {states nodes : ℕ} → Usable l table states nodes → Usable m table states nodes
  usable_same u = front_usable front u

  -- the job
  pub job_same
      : {j : Job} {table : List (List ℕ)} {finals states nodes : ℕ} → Usable l table states nodes
      → JobHeld j l table finals states nodes → JobHeld j m table finals states nodes
  job_same u h = front_job front u h

  -- the plan that is held
  pub plan_same : (plan : List ℕ) {nodes : ℕ} → nodes ≤ 512 → PlanHeld plan l nodes → PlanHeld plan m nodes
  plan_same plan h p n g = s.outside (plan_part + n) (inr (omega arith), inl (omega arith)) ∙ p n g
