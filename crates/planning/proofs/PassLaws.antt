-- Laws of a try and of a pass, with any test of plans.
-- A try only ever makes a byte 1 to 0, so a pass that changes something lowers the count of watched points. A node whose try changed
-- nothing need not be tried again before the plan changes: a pass that removed nothing may be cut short there (`pass_cut`).
-- Assumes nothing.
use mathlib.Core.Path.{◌≡◌, refl, sym, ap, ◌∙◌}
use mathlib.Core.Logic.{◌↔◌, ⊎_elim}
use mathlib.Core.Bool.{Bool, true, false, cond, ◌&&◌}
use mathlib.Core.List.{List}
use Prim.Native.Nat.{ℕ, zero, suc, ◌+◌, ◌≤◌, ◌<◌, zero-le}
use native.Mathlib.Nat.{le_refl, le_step, le_of_suc-le-suc, eq-or-lt_of_le}
use native.Mathlib.Numerals.{add-one}
use native.Mathlib.Omega.{arith}
use lib.ListN.{set}
use Rattle.laws.proofs.Tests.{fails_of}
use Rattle.job.specs.Job.{Job}
use Rattle.job.specs.Plan.{enables}
use Rattle.planning.specs.Planning.{IsPlan, tried, passed, enabled_count}
use Rattle.planning.proofs.PlanBytes.{set_differs, count_set, lowered_plan}
use Rattle.planning.proofs.PlanBytes.{Lowered, lowered_refl, lowered_trans, lowered_set, lowered_count, lowered_same, lowered_falls}

-- ---- tries

-- what a try with a test leaves, in its three cases
pub data TriedBy (test : List ℕ → Bool) (n : ℕ) (plan : List ℕ) : List ℕ → Type 0 where
  goes : enables plan n ≡ true → test (set plan n 0) ≡ true → TriedBy test n plan (set plan n 0)
  stays : enables plan n ≡ true → test (set plan n 0) ≡ false → TriedBy test n plan plan
  passed_by : enables plan n ≡ false → TriedBy test n plan plan

-- no try at a node from k to before n changes the plan
abbrev pub Kept : (List ℕ → Bool) → ℕ → ℕ → List ℕ → Type 0
Kept test k n plan = (i : ℕ) → k ≤ i → i < n → tried test i plan ≡ plan

-- the first n nodes of a pass over a plan have left p, and k is one past the last node removed, 0 where there is none
pub record InPass (test : List ℕ → Bool) (plan : List ℕ) (n : ℕ) (p : List ℕ) (k : ℕ) : Type 0 where
  pub exact : p ≡ passed test n plan
  pub within : k ≤ n
  pub kept : Kept test k n p
  pub same : k ≡ 0 → p ≡ plan
  pub fewer : 0 < k → enabled_count p < enabled_count plan

module _ (test : List ℕ → Bool) where
  -- a try is one of the three
  pub tried_by : (n : ℕ) (plan : List ℕ) → TriedBy test n plan (tried test n plan)
  tried_by n plan = go (enables plan n) (test (set plan n 0)) refl refl
    where
      go : (w t : Bool) → enables plan n ≡ w → test (set plan n 0) ≡ t → TriedBy test n plan (cond (w && t) (set plan n 0) plan)
      go true true e f = goes e f
      go true false e f = stays e f
      go false t e f = passed_by e

  -- at a node that is not watched nothing changes
  pub tried_disabled : (n : ℕ) (plan : List ℕ) → enables plan n ≡ false → tried test n plan ≡ plan
  tried_disabled n plan w = simp w

  -- a point without which the test fails stays
  pub tried_needed : (n : ℕ) (plan : List ℕ) → enables plan n ≡ true → test (set plan n 0) ≡ false → tried test n plan ≡ plan
  tried_needed n plan w t = simp (w, t)

  -- a point without which the test passes goes
  pub tried_removed : (n : ℕ) (plan : List ℕ) → enables plan n ≡ true → test (set plan n 0) ≡ true → tried test n plan ≡ set plan n 0
  tried_removed n plan w t = simp (w, t)

  -- a point that stays is one without which the test fails
  pub kept_needed : (n : ℕ) (plan : List ℕ) → tried test n plan ≡ plan → enables plan n ≡ true → test (set plan n 0) ≡ false
  kept_needed n plan e w =
      fails_of (test (set plan n 0)) (λ t. set_differs plan n w (sym (tried_removed n plan w t) ∙ e))

  -- only a byte 1 is made 0
  pub tried_lowered : (n : ℕ) (plan : List ℕ) → Lowered plan (tried test n plan)
  tried_lowered n plan = go (tried_by n plan)
    where
      go : {r : List ℕ} → TriedBy test n plan r → Lowered plan r
      go (goes w t) = lowered_set plan n w
      go (stays w t) = lowered_refl plan
      go (passed_by w) = lowered_refl plan

  -- a plan of a job stays one
  pub tried_plan : {j : Job} (n : ℕ) (plan : List ℕ) → IsPlan j plan → IsPlan j (tried test n plan)
  tried_plan n plan v = lowered_plan (tried_lowered n plan) v

  -- a plan that passes the test is left as one
  pub tried_passes : (n : ℕ) (plan : List ℕ) → test plan ≡ true → test (tried test n plan) ≡ true
  tried_passes n plan h = go (tried_by n plan)
    where
      go : {r : List ℕ} → TriedBy test n plan r → test r ≡ true
      go (goes w t) = t
      go (stays w t) = h
      go (passed_by w) = h

  -- ---- a pass

  -- before the first node
  pub passed_none : (plan : List ℕ) → passed test 0 plan ≡ plan
  unfolding passed
  passed_none plan = refl

  -- one node more
  pub passed_more : (n : ℕ) (plan : List ℕ) → passed test (n + 1) plan ≡ tried test n (passed test n plan)
  unfolding passed
  passed_more n plan = rw (add-one n)

  -- the next node is not watched in the plan p so far: p stays
  pub passed_disabled : (n : ℕ) (plan p : List ℕ) → p ≡ passed test n plan → enables p n ≡ false → p ≡ passed test (n + 1) plan
  passed_disabled n plan p e w = sym (passed_more n plan ∙ rw (← e) (tried_disabled n p w))

  -- it is watched and needed: p stays
  pub passed_needed
      : (n : ℕ) (plan p : List ℕ) → p ≡ passed test n plan → enables p n ≡ true → test (set p n 0) ≡ false → p ≡ passed test (n + 1) plan
  passed_needed n plan p e w t = sym (passed_more n plan ∙ rw (← e) (tried_needed n p w t))

  -- it is watched and not needed: it goes
  pub passed_removed
      : (n : ℕ) (plan p : List ℕ) → p ≡ passed test n plan → enables p n ≡ true → test (set p n 0) ≡ true
      → set p n 0 ≡ passed test (n + 1) plan
  passed_removed n plan p e w t = sym (passed_more n plan ∙ rw (← e) (tried_removed n p w t))

  -- later in a pass a plan has only lost points
  pub passed_lowered_from : (k n : ℕ) (plan : List ℕ) → k ≤ n → Lowered (passed test k plan) (passed test n plan)
  unfolding passed
  passed_lowered_from k zero plan h =
      let e : k ≡ 0 = omega arith in
      rw e (lowered_refl plan)
  passed_lowered_from k (suc n) plan h =
      ⊎_elim
      (λ (e : k ≡ suc n). rw e (lowered_refl (passed test (suc n) plan)))
      (λ (l : k < suc n). lowered_trans (passed_lowered_from k n plan (le_of_suc-le-suc l)) (tried_lowered n (passed test n plan)))
      (eq-or-lt_of_le h)

  -- a pass only makes bytes 1 to 0
  pub passed_lowered : (n : ℕ) (plan : List ℕ) → Lowered plan (passed test n plan)
  passed_lowered n plan = rw (passed_none plan) at (passed_lowered_from 0 n plan zero-le)

  -- a plan of a job stays one
  pub passed_plan : {j : Job} (n : ℕ) (plan : List ℕ) → IsPlan j plan → IsPlan j (passed test n plan)
  passed_plan n plan v = lowered_plan (passed_lowered n plan) v

  -- a pass that changes something lowers the count
  pub passed_falls : (n : ℕ) (plan : List ℕ) → (passed test n plan ≡ plan → ⊥) → enabled_count (passed test n plan) < enabled_count plan
  passed_falls n plan ne = lowered_falls (passed_lowered n plan) ne

  -- a pass that leaves the count leaves the plan
  pub passed_same : (n : ℕ) (plan : List ℕ) → enabled_count (passed test n plan) ≡ enabled_count plan → passed test n plan ≡ plan
  passed_same n plan c = lowered_same (passed_lowered n plan) c

  -- a plan that passes the test is left as one
  pub passed_passes : (n : ℕ) (plan : List ℕ) → test plan ≡ true → test (passed test n plan) ≡ true
  unfolding passed
  passed_passes zero plan h = h
  passed_passes (suc n) plan h = tried_passes n (passed test n plan) (passed_passes n plan h)

  -- ---- nodes that were tried under the plan as it stands

  -- no node at all
  pub kept_none : (n : ℕ) (plan : List ℕ) → Kept test n n plan
  kept_none n plan i h l = absurd (omega arith)

  -- one node more
  pub kept_more : (k n : ℕ) (plan : List ℕ) → Kept test k n plan → tried test n plan ≡ plan → Kept test k (n + 1) plan
  kept_more k n plan h e i g l =
      ⊎_elim (λ (q : i ≡ n). rw q e) (λ (m : i < n). h i g m) (eq-or-lt_of_le (le_of_suc-le-suc (rw add-one at l)))

  -- after a pass that removes nothing from node k on, the nodes from k on are such
  pub kept_since : (k n : ℕ) (plan : List ℕ) → k ≤ n → passed test k plan ≡ passed test n plan → Kept test k n (passed test n plan)
  unfolding passed
  kept_since k n plan h e i g l =
      let here = between i g (omega arith) in
      let after = between (suc i) (omega arith) l in
      cc
    where
      between : (i : ℕ) → k ≤ i → i ≤ n → passed test i plan ≡ passed test n plan
      between i g m =
          let one = passed_lowered_from k i plan g in
          let other = passed_lowered_from i n plan m in
          sym (lowered_same other (omega (arith, lowered_count one, lowered_count other, ap enabled_count e)))

  -- a pass that removes nothing before node k removes nothing
  pub kept_passed : (k n : ℕ) (plan : List ℕ) → k ≤ n → Kept test k n plan → passed test k plan ≡ plan → passed test n plan ≡ plan
  unfolding passed
  kept_passed k zero plan h t e = refl
  kept_passed k (suc n) plan h t e =
      ⊎_elim
      (λ (q : k ≡ suc n). rw q at e)
      (λ (l : k < suc n).
      let m = le_of_suc-le-suc l in
      rw (kept_passed k n plan m (λ i g u. t i g (le_step u)) e) (t n m (le_refl (suc n))))
      (eq-or-lt_of_le h)

  -- a pass changes nothing when no try does
  pub passed_says : (n : ℕ) (plan : List ℕ) → (passed test n plan ≡ plan) ↔ Kept test 0 n plan
  passed_says n plan = (
    λ e. rw e at (kept_since 0 n plan zero-le (passed_none plan ∙ sym e)),
    λ h. kept_passed 0 n plan zero-le h (passed_none plan),
  )

  -- after a pass with its last removal before node k, a pass that removes nothing before k is over
  pub pass_unchanged
      : (k n : ℕ) (plan : List ℕ) → k ≤ n → passed test k plan ≡ passed test n plan
      → passed test k (passed test n plan) ≡ passed test n plan → passed test n (passed test n plan) ≡ passed test n plan
  pass_unchanged k n plan h e u = kept_passed k n (passed test n plan) h (kept_since k n plan h e) u

  -- where a pass changes nothing, the test fails without any one of the points
  pub passed_needs
      : (n : ℕ) (plan : List ℕ) → passed test n plan ≡ plan → (i : ℕ) → i < n → enables plan i ≡ true → test (set plan i 0) ≡ false
  passed_needs n plan e i l w = kept_needed i plan ((passed_says n plan).0 e i zero-le l) w

  -- ---- a pass in a buffer, which may be cut short

  -- before the first node
  pub pass_start : (plan : List ℕ) → InPass test plan 0 plan 0
  pass_start plan =
      record {
        exact = sym (passed_none plan);
        within = zero-le;
        kept = kept_none 0 plan;
        same = λ e. refl;
        fewer = λ l. absurd (omega arith);
      }

  -- a node that stays as it is
  pass_kept
      : (plan : List ℕ) (n : ℕ) (p : List ℕ) (k : ℕ) → InPass test plan n p k → tried test n p ≡ p → InPass test plan (n + 1) p k
  pass_kept plan n p k h e =
      record {
        exact = sym (passed_more n plan ∙ rw (← h.exact) e);
        within = omega (arith, h.within);
        kept = kept_more k n p h.kept e;
        same = h.same;
        fewer = h.fewer;
      }

  -- a node that is not watched
  pub pass_disabled
      : (plan : List ℕ) (n : ℕ) (p : List ℕ) (k : ℕ) → InPass test plan n p k → enables p n ≡ false → InPass test plan (n + 1) p k
  pass_disabled plan n p k h w = pass_kept plan n p k h (tried_disabled n p w)

  -- a point that is needed
  pub pass_needed
      : (plan : List ℕ) (n : ℕ) (p : List ℕ) (k : ℕ) → InPass test plan n p k → enables p n ≡ true → test (set p n 0) ≡ false
      → InPass test plan (n + 1) p k
  pass_needed plan n p k h w t = pass_kept plan n p k h (tried_needed n p w t)

  -- a point that goes
  pub pass_removed
      : (plan : List ℕ) (n : ℕ) (p : List ℕ) (k : ℕ) → InPass test plan n p k → enables p n ≡ true → test (set p n 0) ≡ true
      → InPass test plan (n + 1) (set p n 0) (n + 1)
  pass_removed plan n p k h w t =
      let before = rw (← h.exact) at (passed_lowered n plan) in
      record {
        exact = passed_removed n plan p h.exact w t;
        within = le_refl (n + 1);
        kept = kept_none (n + 1) (set p n 0);
        same = λ e. absurd (omega arith);
        fewer = λ l. omega (arith, count_set p n w, lowered_count before);
      }

  -- nothing is removed before node k, and from k on the nodes were tried under this plan in the pass before: the pass is over
  pub pass_cut
      : (plan : List ℕ) (k n : ℕ) (p : List ℕ) → InPass test plan k p 0 → k ≤ n → Kept test k n plan → InPass test plan n p 0
  pass_cut plan k n p h l t =
      let here : p ≡ plan = h.same refl in
      let whole : passed test n plan ≡ plan = kept_passed k n plan l t (sym h.exact ∙ here) in
      record {
        exact = here ∙ sym whole;
        within = zero-le;
        kept = rw here ((passed_says n plan).0 whole);
        same = λ e. here;
        fewer = λ m. absurd (omega arith);
      }

  -- a pass in which nothing went changed nothing
  pub pass_same : (plan : List ℕ) (n : ℕ) (p : List ℕ) → InPass test plan n p 0 → passed test n plan ≡ plan
  pass_same plan n p h = sym h.exact ∙ h.same refl

  -- a pass in which a point went changed something
  pub pass_changed
      : (plan : List ℕ) (n : ℕ) (p : List ℕ) (k : ℕ) → InPass test plan n p k → 0 < k → passed test n plan ≡ plan → ⊥
  pass_changed plan n p k h l e = omega (arith, h.fewer l, ap enabled_count (h.exact ∙ e))
