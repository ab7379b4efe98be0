-- Laws of planning with any test of plans: passes until one changes nothing, which counts.
-- Each pass but the last lowers the count of watched points, so the bound of `passes_from`, which is above that count, is never met
-- (`planning_passes`), and any such bound gives the same (`passes_bound`). The laws after these two do not mention it.
-- Assumes nothing.
use mathlib.Core.Path.{◌≡◌, refl, sym, ap, ◌∙◌}
use mathlib.Core.Bool.{Bool, true, false, cond, true≢false}
use mathlib.Core.List.{List}
use Prim.Native.Nat.{ℕ, zero, suc, ◌+◌, ◌≤◌, ◌<◌}
use native.Mathlib.Omega.{arith}
use Rattle.planning.specs.Planning.{passed, same_plan, Planned, one_pass_more, passes_from, enabled_count}
use Rattle.planning.proofs.PlanBytes.{same_says, Lowered, lowered_refl, lowered_trans}
use Rattle.planning.proofs.PassLaws.{passed_lowered, passed_falls, passed_passes}

-- passes with a test until one changes nothing, which is counted too, with no bound: from a plan, to a plan, in so many
pub data PassesBy (test : List ℕ → Bool) (n : ℕ) : List ℕ → List ℕ → ℕ → Type 0 where
  last_by : {plan : List ℕ} → passed test n plan ≡ plan → PassesBy test n plan plan 1
  again_by
      : {plan r : List ℕ} {k : ℕ} → (passed test n plan ≡ plan → ⊥) → PassesBy test n (passed test n plan) r k
      → PassesBy test n plan r (k + 1)

-- what the passes come to: `passes_from` with a bound above the watched points
abbrev pub settled : (List ℕ → Bool) → ℕ → List ℕ → Planned
settled test n plan = passes_from (enabled_count plan + 1) test n plan

-- after c passes that each changed something the plan is p: planning ends where it ends from p, with c passes more
pub record Underway (test : List ℕ → Bool) (n : ℕ) (plan p : List ℕ) (c : ℕ) : Type 0 where
  pub ends : (settled test n plan).plan ≡ (settled test n p).plan
  pub counts : (settled test n plan).passes ≡ c + (settled test n p).passes

module _ (test : List ℕ → Bool) (n : ℕ) where
  -- the passes from a plan come to one plan, in one number
  pub passes_by_unique
      : {plan r s : List ℕ} {k l : ℕ} → PassesBy test n plan r k → PassesBy test n plan s l → (r ≡ s) × (k ≡ l)
  passes_by_unique (last_by e) (last_by f) = (refl, refl)
  passes_by_unique (last_by e) (again_by f h) = absurd (f e)
  passes_by_unique (again_by e h) (last_by f) = absurd (e f)
  passes_by_unique (again_by e h) (again_by f i) = let both = passes_by_unique h i in (both.0, omega arith)

  -- a bound above the watched points is never met: `passes_from` does the passes of `PassesBy`
  pub planning_passes
      : (k : ℕ) (plan : List ℕ) → enabled_count plan < k
      → PassesBy test n plan (passes_from k test n plan).plan (passes_from k test n plan).passes
  unfolding passes_from
  planning_passes zero plan h = absurd (omega arith)
  planning_passes (suc k) plan h =
      go (same_plan plan (passed test n plan)) refl (λ l. planning_passes k (passed test n plan) l)
    where
      rest : Planned
      rest = passes_from k test n (passed test n plan)

      result : Bool → Planned
      result b = cond b (record { plan = plan; passes = 1 }) (one_pass_more rest)

      go : (b : Bool) → same_plan plan (passed test n plan) ≡ b
          → (enabled_count (passed test n plan) < k → PassesBy test n (passed test n plan) rest.plan rest.passes)
          → PassesBy test n plan (result b).plan (result b).passes
      go true e f = last_by (sym ((same_says plan (passed test n plan)).0 e))
      go false e f =
          let ne : passed test n plan ≡ plan → ⊥ = λ q. true≢false (sym ((same_says plan (passed test n plan)).1 (sym q)) ∙ e) in
          again_by ne (f (omega (arith, passed_falls test n plan ne)))

  -- every such bound gives the same
  pub passes_bound : (k : ℕ) (plan : List ℕ) → enabled_count plan < k → passes_from k test n plan ≡ settled test n plan
  passes_bound k plan h =
      let both = passes_by_unique (planning_passes k plan h) (planning_passes (enabled_count plan + 1) plan (omega arith)) in
      λ i. record { plan = both.0 i; passes = both.1 i }

  -- what the passes come to, with no bound
  pub settled_by : (plan : List ℕ) → PassesBy test n plan (settled test n plan).plan (settled test n plan).passes
  settled_by plan = planning_passes (enabled_count plan + 1) plan (omega arith)

  -- what passes come to is that
  pub settled_of : {plan r : List ℕ} {k : ℕ} → PassesBy test n plan r k → settled test n plan ≡ record { plan = r; passes = k }
  settled_of {plan} {r} {k} h =
      let both = passes_by_unique (settled_by plan) h in
      λ i. record { plan = both.0 i; passes = both.1 i }

  -- a pass that changes nothing is the last and counts
  pub settled_last : (plan : List ℕ) → passed test n plan ≡ plan → settled test n plan ≡ record { plan = plan; passes = 1 }
  settled_last plan e = settled_of (last_by e)

  -- a pass that changes something is one more than those from the plan that it leaves
  pub settled_again
      : (plan : List ℕ) → (passed test n plan ≡ plan → ⊥) → settled test n plan ≡ one_pass_more (settled test n (passed test n plan))
  settled_again plan ne = settled_of (again_by ne (settled_by (passed test n plan)))

  -- before the first pass
  pub underway_start : (plan : List ℕ) → Underway test n plan plan 0
  underway_start plan = record { ends = refl; counts = omega arith }

  -- a pass that changes something
  pub underway_more
      : (plan p : List ℕ) (c : ℕ) → Underway test n plan p c → (passed test n p ≡ p → ⊥) → Underway test n plan (passed test n p) (c + 1)
  underway_more plan p c u ne =
      let step = settled_again p ne in
      record {
        ends = u.ends ∙ ap (λ (r : Planned). r.plan) step;
        counts = omega (arith, u.counts, ap (λ (r : Planned). r.passes) step);
      }

  -- a pass that changes nothing
  pub underway_last
      : (plan p : List ℕ) (c : ℕ) → Underway test n plan p c → passed test n p ≡ p
      → settled test n plan ≡ record { plan = p; passes = c + 1 }
  underway_last plan p c u e =
      let step = settled_last p e in
      let plans : (settled test n plan).plan ≡ p = u.ends ∙ ap (λ (r : Planned). r.plan) step in
      let passes : (settled test n plan).passes ≡ c + 1 = omega (arith, u.counts, ap (λ (r : Planned). r.passes) step) in
      λ i. record { plan = plans i; passes = passes i }

  -- the passes only make bytes 1 to 0
  pub passes_lowered : {plan r : List ℕ} {k : ℕ} → PassesBy test n plan r k → Lowered plan r
  passes_lowered (last_by {plan} e) = lowered_refl plan
  passes_lowered (again_by {plan} e h) = lowered_trans (passed_lowered test n plan) (passes_lowered h)

  -- a pass over the plan that they come to changes nothing
  pub passes_settled : {plan r : List ℕ} {k : ℕ} → PassesBy test n plan r k → passed test n r ≡ r
  passes_settled (last_by e) = e
  passes_settled (again_by e h) = passes_settled h

  -- a plan that passes the test comes to one
  pub passes_passes : {plan r : List ℕ} {k : ℕ} → PassesBy test n plan r k → test plan ≡ true → test r ≡ true
  passes_passes (last_by e) t = t
  passes_passes (again_by {plan} e h) t = passes_passes h (passed_passes test n plan t)

  -- there is a pass
  pub passes_some : {plan r : List ℕ} {k : ℕ} → PassesBy test n plan r k → 1 ≤ k
  passes_some (last_by e) = omega arith
  passes_some (again_by e h) = omega arith

  -- each pass but the last removes a point
  pub passes_few : {plan r : List ℕ} {k : ℕ} → PassesBy test n plan r k → k + enabled_count r ≤ enabled_count plan + 1
  passes_few (last_by e) = omega arith
  passes_few (again_by {plan} e h) = omega (arith, passes_few h, passed_falls test n plan e)

  -- there are not more passes under way than watched points at the start
  pub underway_few : (plan p : List ℕ) (c : ℕ) → Underway test n plan p c → c ≤ enabled_count plan
  underway_few plan p c u = omega (arith, passes_few (settled_by plan), passes_some (settled_by p), u.counts)
