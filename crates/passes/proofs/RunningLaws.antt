-- The watched total that planning carries along is the number of watched points of the plan as it stands, and the total returned and listed.
-- Assumes nothing.
use mathlib.Core.Path.{◌≡◌, refl, sym, ap, subst, ◌∙◌}
use mathlib.Core.Bool.{Bool, true, false, cond, ◌&&◌}
use mathlib.Core.List.{List}
use Prim.Native.Nat.{ℕ, zero, suc, ◌+◌, ◌≤◌, ◌<◌}
use native.Mathlib.Nat.{le_refl}
use native.Mathlib.Numerals.{add-one}
use native.Mathlib.Omega.{arith}
use lib.ListN.{length, set}
use lib.Seq.{get_or-set_same}
use Rattle.laws.specs.Bounded.{sum_below}
use Rattle.laws.proofs.Bounded.{sum_cong}
use Rattle.job.specs.Job.{is_event, Job, node_at, WellFormedJob}
use Rattle.job.specs.Plan.{enables}
use Rattle.job.specs.Search.{faithful}
use Rattle.job.proofs.Decide.{faithful_says}
use Rattle.planning.specs.Planning.{IsPlan, all_enabled, tried, passed, enabled_count, Tried, removed, needed, disabled}
use Rattle.planning.specs.Listing.{plan_of, listing_of}
use Rattle.planning.proofs.PlanBytes.{enabled_within, disabled_byte, lowered_set, lowered_plan, count_set, count_says, all_enabled_plan, all_enabled_count}
use Rattle.planning.proofs.PlanningLaws.{PassesBy, last_by, again_by}
use Rattle.planning.proofs.PlanningResult.{tried_unique, tried_relation, planned_by}
use Rattle.passes.specs.Running.{enabled_total, total_left, Stands, start, next_try, next_pass, RunningTotal}

-- ---- a try

-- a point that was removed is not watched
removed_disabled : (plan : List ℕ) (n : ℕ) → enables plan n ≡ true → enables (set plan n 0) n ≡ false
removed_disabled plan n w = disabled_byte (set plan n 0) n (get_or-set_same plan n 0 0 (enabled_within plan n w))

-- the total that was the count is the count again
total_left_counts
    : {j : Job} {n : ℕ} {plan left : List ℕ} (total : ℕ) → Tried j n plan left → total ≡ enabled_count plan
    → total_left n plan left total ≡ enabled_count left
total_left_counts {n = n} {plan = plan} total (removed w f) e = simp (w, removed_disabled plan n w) (omega (arith, count_set plan n w))
total_left_counts total (needed w f) e = simp w e
total_left_counts total (disabled w) e = simp w e

-- a plan stays one
tried_keeps : {j : Job} {n : ℕ} {plan left : List ℕ} → Tried j n plan left → IsPlan j plan → IsPlan j left
tried_keeps {n = n} {plan = plan} (removed w f) v = lowered_plan (lowered_set plan n w) v
tried_keeps (needed w f) v = v
tried_keeps (disabled w) v = v

-- ---- where planning stands

-- at a plan
stands_plan : {j : Job} {k n total : ℕ} {plan : List ℕ} → Stands j k n plan total → IsPlan j plan
stands_plan {j} start = all_enabled_plan j
stands_plan (next_try s l t) = tried_keeps t (stands_plan s)
stands_plan (next_pass s) = stands_plan s

-- with the count of its watched points
stands_count : {j : Job} {k n total : ℕ} {plan : List ℕ} → Stands j k n plan total → total ≡ enabled_count plan
stands_count {j} start = sym (all_enabled_count j)
stands_count (next_try {total = total} s l t) = total_left_counts total t (stands_count s)
stands_count (next_pass s) = stands_count s

-- which is that of the event nodes watched, since it watches no other
both_enabled : (shadow enabled : Bool) → (enabled ≡ true → shadow ≡ true) → enabled ≡ shadow && enabled
both_enabled true enabled h = refl
both_enabled false true h = sym (h refl)
both_enabled false false h = refl

stands_enabled : {j : Job} {k n total : ℕ} {plan : List ℕ} → Stands j k n plan total → total ≡ enabled_total j plan
stands_enabled {j} {plan = plan} s =
    let v = stands_plan s in
    stands_count s ∙ count_says plan v.bytes ∙ ap (λ (k : ℕ). sum_below k (λ i. cond (enables plan i) 1 0)) v.long
    ∙ sum_cong (length j.nodes) (λ i. cond (enables plan i) 1 0) (λ i. cond (is_event (node_at j i).kind && enables plan i) 1 0)
    (λ i l.
    ap (λ (b : Bool). cond b 1 0) (both_enabled (is_event (node_at j i).kind) (enables plan i) (v.shadows i)))

-- at any plan that is the same, with any total that is its count
pub stands_at
    : {j : Job} {k n total : ℕ} {plan left : List ℕ} → left ≡ plan → total ≡ enabled_count left → Stands j k n plan (enabled_count plan)
    → Stands j k n left total
stands_at {j} {k} {n} {left = left} e c s =
    subst (Stands j k n left) (sym c) (subst (λ (p : List ℕ). Stands j k n p (enabled_count p)) (sym e) s)

-- before the first try
pub stands_start : (j : Job) → Stands j 0 0 (all_enabled j) (enabled_count (all_enabled j))
stands_start j = subst (Stands j 0 0 (all_enabled j)) (stands_count {j = j} start) start

-- after one try more
pub stands_tried
    : {j : Job} {k n total : ℕ} {plan : List ℕ} → WellFormedJob j → n < length j.nodes → Stands j k n plan total
    → Stands j k (n + 1) (tried (faithful j) n plan) (enabled_count (tried (faithful j) n plan))
stands_tried {j} {k} {n} {total} {plan} wf l s =
    let t = tried_relation (faithful j) j (faithful_says wf) n plan in
    rw (add-one n) (subst (Stands j k (suc n) (tried (faithful j) n plan)) (total_left_counts total t (stands_count s)) (next_try s l t))

-- after the first n tries of a pass
stands_passed
    : {j : Job} {k total : ℕ} {plan : List ℕ} → WellFormedJob j → (n : ℕ) → n ≤ length j.nodes → Stands j k 0 plan total
    → Stands j k n (passed (faithful j) n plan) (enabled_count (passed (faithful j) n plan))
unfolding passed
stands_passed {j} {k} {plan = plan} wf zero l s = subst (Stands j k 0 plan) (stands_count s) s
stands_passed wf (suc n) l s = rw (add-one n) at (stands_tried wf l (stands_passed wf n (omega arith) s))

-- after one pass more
pub stands_pass
    : {j : Job} {k total : ℕ} {plan : List ℕ} → WellFormedJob j → Stands j k 0 plan total
    → Stands j (k + 1) 0 (passed (faithful j) (length j.nodes) plan) (enabled_count (passed (faithful j) (length j.nodes) plan))
stands_pass {j} {k} wf s = rw (add-one k) (next_pass (stands_passed wf (length j.nodes) (le_refl _) s))

-- after passes until one changes nothing
stands_passes
    : {j : Job} {k c total : ℕ} {plan r : List ℕ} → WellFormedJob j → Stands j k 0 plan total
    → PassesBy (faithful j) (length j.nodes) plan r c → Stands j (k + c) 0 r (enabled_count r)
stands_passes {j} {k} wf s (last_by {plan} e) =
    rw e at (stands_pass wf s)
stands_passes {j} {k} wf s (again_by {r = r} {k = c} ne h) =
    subst (λ (i : ℕ). Stands j i 0 r (enabled_count r)) (omega arith) (stands_passes {k = k + 1} wf (stands_pass wf s) h)

-- the plan when k passes are over
unfoldable pub plan_over : Job → ℕ → List ℕ
plan_over j zero = all_enabled j
plan_over j (suc k) = passed (faithful j) (length j.nodes) (plan_over j k)

-- and of the next the first n nodes were tried
abbrev pub plan_at : Job → ℕ → ℕ → List ℕ
plan_at j k n = passed (faithful j) n (plan_over j k)

-- in every pass and after every node
pub stands_where
    : (j : Job) → WellFormedJob j → (k n : ℕ) → n ≤ length j.nodes → Stands j k n (plan_at j k n) (enabled_count (plan_at j k n))
unfolding plan_over
stands_where j wf zero n l = stands_passed {j = j} wf n l start
stands_where j wf (suc k) n l = stands_passed wf n l (next_pass (stands_where j wf k (length j.nodes) (le_refl _)))

-- at one plan, with one total
pub stands_unique
    : {j : Job} {k n total : ℕ} {plan left : List ℕ} {other : ℕ} → Stands j k n plan total → Stands j k n left other
    → (plan ≡ left) × (total ≡ other)
stands_unique start start = (refl, refl)
stands_unique (next_try s l t) (next_try r h u) = go (stands_unique s r) t u
  where
    go : {j : Job} {n total other : ℕ} {p q plan left : List ℕ} → (p ≡ q) × (total ≡ other) → Tried j n p plan → Tried j n q left
        → (plan ≡ left) × (total_left n p plan total ≡ total_left n q left other)
    go both t u = let same = tried_unique t (rw (← both.0) at u) in (same, cc)
stands_unique (next_pass s) (next_pass r) = stands_unique s r

-- when the last pass is over
pub stands_planned : (j : Job) → WellFormedJob j → Stands j (plan_of j).passes 0 (plan_of j).plan (enabled_count (plan_of j).plan)
stands_planned j wf =
    subst (λ (k : ℕ). Stands j k 0 (plan_of j).plan (enabled_count (plan_of j).plan)) (omega arith)
    (stands_passes {j = j} wf start (planned_by (faithful j) j))

-- ---- the statement

pub running_total : RunningTotal
unfolding listing_of
running_total =
    record {
      counted = λ j k n plan total s. stands_enabled s;
      some = λ j wf k n l.
          record { plan = plan_at j k n; total = enabled_count (plan_at j k n); stands = stands_where j wf k n l };
      only = λ j k n plan left total other s r. stands_unique s r;
      returned = λ j wf. stands_planned j wf;
      listed = λ j wf. stands_planned j wf;
    }
