-- What planning ends with: the one plan that the sentences of document 01 allow. It is faithful, and each point left watched is needed.
-- The relations of `specs/Planning.antt` allow one result; with any test of plans that says `Faithful`, `planned` gives it.
-- Assumes nothing.
use mathlib.Core.Path.{◌≡◌, refl, sym, ap, ◌∙◌}
use mathlib.Core.Logic.{◌↔◌}
use mathlib.Core.Bool.{Bool, true, false, cond, true≢false}
use mathlib.Core.List.{List, ◌∷◌}
use Prim.Native.Nat.{ℕ, zero, suc, ◌+◌, ◌≤◌}
use native.Mathlib.Omega.{arith}
use lib.ListN.{length, set}
use Rattle.laws.specs.Bounded.{sum_below}
use Rattle.job.specs.Job.{is_point, is_event, Job, node_at}
use Rattle.job.proofs.KindLaws.{ToldBy, by_point, by_words, by_after, told_by}
use Rattle.job.specs.Walk.{Event, Place, Told, Walk, stop, move, tell}
use Rattle.job.specs.Plan.{Enabling, full, enables, takes, state_at, alarm_at, alarms, Faithful}
use Rattle.planning.specs.Planning.{IsPlan, all_enabled, tried, passed, Planned, enabled_count, planned}
use Rattle.planning.specs.Planning.{Tried, removed, needed, disabled, Passed, none, next_node, PassesTo, last, again}
use Rattle.planning.proofs.PlanBytes.{Lowered, lowered_plan, lowered_count, enabled_within, count_says, count_le}
use Rattle.planning.proofs.PlanBytes.{all_enabled_plan, all_enabled_event}
use Rattle.planning.proofs.PassLaws.{TriedBy, goes, stays, passed_by, tried_by, passed_needs}
use Rattle.planning.proofs.PlanningLaws.{PassesBy, last_by, again_by, settled_by, passes_lowered, passes_settled, passes_passes, passes_some, passes_few}

-- ---- the relations allow one result

-- a try leaves one plan
pub tried_unique : {j : Job} {n : ℕ} {plan r s : List ℕ} → Tried j n plan r → Tried j n plan s → r ≡ s
tried_unique (removed w f) (removed v g) = refl
tried_unique (removed w f) (needed v g) = absurd (g f)
tried_unique (removed w f) (disabled v) = absurd (true≢false (sym w ∙ v))
tried_unique (needed w f) (removed v g) = absurd (f g)
tried_unique (needed w f) (needed v g) = refl
tried_unique (needed w f) (disabled v) = refl
tried_unique (disabled w) (removed v g) = absurd (true≢false (sym v ∙ w))
tried_unique (disabled w) (needed v g) = refl
tried_unique (disabled w) (disabled v) = refl

-- a pass leaves one plan
pub passed_unique : {j : Job} {plan : List ℕ} {n : ℕ} {r s : List ℕ} → Passed j plan n r → Passed j plan n s → r ≡ s
passed_unique none none = refl
passed_unique (next_node p t) (next_node q u) = tried_unique t (rw (← passed_unique p q) at u)

-- passes come to one plan, in one number
pub passes_unique
    : {j : Job} {plan r s : List ℕ} {k l : ℕ} → PassesTo j plan r k → PassesTo j plan s l → (r ≡ s) × (k ≡ l)
passes_unique (last p) (last q) = (refl, refl)
passes_unique (last p) (again q ne h) = absurd (ne (passed_unique p q))
passes_unique (again p ne h) (last q) = absurd (ne (passed_unique q p))
passes_unique (again p ne h) (again q nf i) =
    let both = passes_unique h (rw (← passed_unique p q) at i) in
    (both.0, omega arith)

-- ---- all points watched

-- an event of a walk is taken under both of two watches that agree at the event nodes, or under neither
pub takes_agree
    : {j : Job} (v w : Enabling) → ((n : ℕ) → is_event (node_at j n).kind ≡ true → v n ≡ w n) → {x y : Place} {e : Event} → Told j x e y
    → takes v e ≡ takes w e
takes_agree {j} v w h t = go (told_by t)
  where
    go : {x y : Place} {e : Event} → ToldBy j x e y → takes v e ≡ takes w e
    go (by_point {n = n} i) = h n (ap is_point i)
    go (by_words m) = refl
    go (by_after i m) = refl

-- watches that agree at the event nodes alarm alike on every walk
pub alarms_agree
    : {j : Job} (v w : Enabling) → ((n : ℕ) → is_event (node_at j n).kind ≡ true → v n ≡ w n) → {x y : Place} {es : List Event} → Walk j x es y
    → (q : ℕ) → alarms j.rule v q es ≡ alarms j.rule w q es
unfolding alarms
alarms_agree v w h stop q = refl
alarms_agree v w h (move s k) q = alarms_agree v w h k q
alarms_agree {j} v w h (tell {e} {es} t k) q =
    rw (takes_agree v w h t)
    (ap (λ (l : List Bool). alarm_at j.rule w q e ∷ l) (alarms_agree v w h k (state_at j.rule w q e)))

-- every point on a walk is an event node, so that with all points watched in the plan the alarms are the full monitor's
pub all_enabled_alarms
    : (j : Job) {x y : Place} {es : List Event} → Walk j x es y
    → (q : ℕ) → alarms j.rule full q es ≡ alarms j.rule (enables (all_enabled j)) q es
all_enabled_alarms j k q = alarms_agree full (enables (all_enabled j)) (λ n e. sym (all_enabled_event j n e)) k q

-- the plan with all points watched is faithful
pub all_enabled_faithful : (j : Job) → Faithful j (enables (all_enabled j))
all_enabled_faithful j s k = all_enabled_alarms j k.walk s.state

-- ---- what planning ends with, with any test

-- of the counts that planning returns: event nodes, watched points, passes
pub record Counts (j : Job) (r : Planned) : Type 0 where
  pub shadows : enabled_count (all_enabled j) ≤ length j.nodes
  pub enabled : enabled_count r.plan ≤ enabled_count (all_enabled j)
  pub some_pass : 1 ≤ r.passes
  pub few_passes : r.passes + enabled_count r.plan ≤ enabled_count (all_enabled j) + 1

-- what that comes to for at most 512 nodes: each fits sixteen bits, and a field of six columns
pub record PlannedFits (j : Job) (r : Planned) : Type 0 where
  pub shadows : enabled_count (all_enabled j) ≤ 512
  pub enabled : enabled_count r.plan ≤ 512
  pub passes : r.passes ≤ 513

module _ (test : List ℕ → Bool) (j : Job) where
  -- passes from all points watched, with no bound
  pub planned_by : PassesBy test (length j.nodes) (all_enabled j) (planned test j).plan (planned test j).passes
  planned_by = settled_by test (length j.nodes) (all_enabled j)

  -- only bytes 1 are made 0
  pub planned_lowered : Lowered (all_enabled j) (planned test j).plan
  planned_lowered = passes_lowered test (length j.nodes) planned_by

  -- a byte for each node, 0 or 1, and 1 at event nodes only
  pub planned_plan : IsPlan j (planned test j).plan
  planned_plan = lowered_plan planned_lowered (all_enabled_plan j)

  -- one pass more changes nothing
  pub planned_settled : passed test (length j.nodes) (planned test j).plan ≡ (planned test j).plan
  planned_settled = passes_settled test (length j.nodes) planned_by

  -- without any one of the points left watched the test fails
  pub planned_needs : (n : ℕ) → enables (planned test j).plan n ≡ true → test (set (planned test j).plan n 0) ≡ false
  planned_needs n w =
      passed_needs test (length j.nodes) (planned test j).plan planned_settled n
      (rw planned_plan.long at (enabled_within (planned test j).plan n w)) w

  -- the watched points, counted
  pub planned_enabled
      : enabled_count (planned test j).plan ≡ sum_below (length j.nodes) (λ n. cond (enables (planned test j).plan n) 1 0)
  planned_enabled =
      count_says (planned test j).plan planned_plan.bytes
      ∙ ap (λ (k : ℕ). sum_below k (λ n. cond (enables (planned test j).plan n) 1 0)) planned_plan.long

  -- no more watched points than event nodes, at least one pass, and one point less for each pass but the last
  pub planned_counts : Counts j (planned test j)
  planned_counts =
      let all = all_enabled_plan j in
      record {
        shadows = rw all.long at (count_le (all_enabled j) all.bytes);
        enabled = lowered_count planned_lowered;
        some_pass = passes_some test (length j.nodes) planned_by;
        few_passes = passes_few test (length j.nodes) planned_by;
      }

  -- the counts for at most 512 nodes
  pub planned_fits : length j.nodes ≤ 512 → PlannedFits j (planned test j)
  planned_fits h = let c = planned_counts in record { shadows = omega arith; enabled = omega arith; passes = omega arith }

-- ---- what planning ends with, with a test that says `Faithful`

module _ (test : List ℕ → Bool) (j : Job) (says : (plan : List ℕ) → (test plan ≡ true) ↔ Faithful j (enables plan)) where
  -- where the test fails the plan is not faithful
  pub fails_unfaithful : (plan : List ℕ) → test plan ≡ false → Faithful j (enables plan) → ⊥
  fails_unfaithful plan t f = true≢false (sym ((says plan).1 f) ∙ t)

  -- a try is one by the relation
  pub tried_relation : (n : ℕ) (plan : List ℕ) → Tried j n plan (tried test n plan)
  tried_relation n plan = go (tried_by test n plan)
    where
      go : {r : List ℕ} → TriedBy test n plan r → Tried j n plan r
      go (goes w t) = removed w ((says (set plan n 0)).0 t)
      go (stays w t) = needed w (fails_unfaithful (set plan n 0) t)
      go (passed_by w) = disabled w

  -- a pass is one by the relation
  pub passed_relation : (n : ℕ) (plan : List ℕ) → Passed j plan n (passed test n plan)
  unfolding passed
  passed_relation zero plan = none
  passed_relation (suc n) plan = next_node (passed_relation n plan) (tried_relation n (passed test n plan))

  -- passes are passes by the relation
  pub passes_relation : {plan r : List ℕ} {k : ℕ} → PassesBy test (length j.nodes) plan r k → PassesTo j plan r k
  passes_relation (last_by {plan} e) = last (rw e at (passed_relation (length j.nodes) plan))
  passes_relation (again_by {plan} ne h) =
      again (passed_relation (length j.nodes) plan) (λ e. ne (sym e)) (passes_relation h)

  -- planning does what the sentences of document 01 say
  pub planned_relation : PassesTo j (all_enabled j) (planned test j).plan (planned test j).passes
  planned_relation = passes_relation (planned_by test j)

  -- its result is the only one that they allow
  pub planned_unique
      : {r : List ℕ} {k : ℕ} → PassesTo j (all_enabled j) r k → (r ≡ (planned test j).plan) × (k ≡ (planned test j).passes)
  planned_unique h = passes_unique h planned_relation

  -- the plan is faithful
  pub plan_faithful : Faithful j (enables (planned test j).plan)
  plan_faithful =
      (says (planned test j).plan).0
      (passes_passes test (length j.nodes) (planned_by test j) ((says (all_enabled j)).1 (all_enabled_faithful j)))

  -- each point left watched is needed
  pub plan_needed
      : (n : ℕ) → enables (planned test j).plan n ≡ true → Faithful j (enables (set (planned test j).plan n 0)) → ⊥
  plan_needed n w = fails_unfaithful (set (planned test j).plan n 0) (planned_needs test j n w)
