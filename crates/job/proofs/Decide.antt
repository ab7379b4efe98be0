-- What the tests of plans, before sets and classes say: `faithful`, `arrives` and `apart` decide what the walks of a job define.
-- Why: the search finds exactly the reached pairs, and a walk shows a difference where one of them splits.
-- Assumes nothing.
use mathlib.Core.Path.{◌≡◌, refl, sym, ap, ◌∙◌}
use mathlib.Core.Logic.Iff
use mathlib.Core.Logic.{◌⊎◌, inl, inr, ⊎_elim, ◌↔◌}
use mathlib.Core.Bool.{Bool, true, false, not, ◌&&◌, true≢false, false≢true, and-eq-true_iff}
use mathlib.Core.List.{List, [], ◌∷◌}
use Prim.Native.Nat.{ℕ, ◌<◌}
use lib.Dec.{eqb}
use lib.ListN.{length}
use borrow.Author.Tests.{eq-eqb, eqb-true}
use Rattle.job.specs.Job.{Job, WellFormedJob}
use Rattle.job.specs.Walk.{Place, before, past, ended}
use Rattle.job.specs.Plan.{Enabling, full, enables, ApartAt, Faithful, Different}
use Rattle.job.specs.Found.{Arrives, Apart, Equivalent}
use Rattle.job.specs.SearchSays.{SearchSays}
use Rattle.job.specs.Search.{any_of, Config, config_of, splits, starts_below, configs, is_before, faithful, arrives, apart}
use Rattle.job.proofs.Pairs.{Pair, Admitted, admitted, Only, only, arrives_at_says}
use Rattle.laws.proofs.Tests.{not_own, same_or_contrary}
use Rattle.job.proofs.Pairs.{differ_not_same, alike_says}
use Rattle.job.proofs.ConfigLaws.{configs_say, search_finds, admitted_listed, only_listed}

-- ---- plans

-- a start that is told apart shows a difference
pub start_different : {j : Job} {w : Enabling} {x : Place} {p q : ℕ} → Admitted j x p q → ApartAt j full w x p q → Different j w
start_different (admitted {n = n} {q = q} h) a =
    record { start = record { node = n; state = q; admitted = h }; apart = a }

-- a difference tells a start apart
different_start : {j : Job} {w : Enabling} → Different j w → (x : Place) × (p : ℕ) × (q : ℕ) × Admitted j x p q × ApartAt j full w x p q
different_start d = (
  before d.start.node,
  d.start.state,
  d.start.state,
  admitted d.start.admitted,
  d.apart,
)

-- no plan is faithful and different
pub different_not_faithful : {j : Job} {w : Enabling} → Different j w → Faithful j w → ⊥
different_not_faithful d f = differ_not_same d.apart.differs (f d.start d.apart.walk)

-- a plan with no difference is faithful
pub faithful_of : {j : Job} {w : Enabling} → (Different j w → ⊥) → Faithful j w
faithful_of n s =
    (alike_says (before s.node) s.state s.state).1 (λ a. n (start_different (admitted s.admitted) a))

-- `not` fails where its test passes
not_fails_says : (a : Bool) → (not a ≡ false) ↔ (a ≡ true)
not_fails_says true = (λ e. refl, λ e. refl)
not_fails_says false = (λ e. absurd (true≢false e), λ e. absurd (false≢true e))

-- where one answer of a test says something, the other says that it is not so
contrary_says : {D : Type 0} (t b : Bool) → (t ≡ b) ↔ D → (t ≡ not b) ↔ (D → ⊥)
contrary_says t b says = (
  λ h d. not_own b (sym (says.1 d) ∙ h),
  λ n. ⊎_elim (λ (e : t ≡ b). absurd (n (says.0 e))) (λ (e : t ≡ not b). e) (same_or_contrary t b),
)

module _ {j : Job} (wf : WellFormedJob j) (plan : List ℕ) where
  -- `faithful` fails where some walk shows a difference, and only there
  pub different_says : (faithful j plan ≡ false) ↔ Different j (enables plan)
  unfolding faithful
  different_says =
      Iff.trans (not_fails_says (any_of (splits j full (enables plan)) (configs j full (enables plan) starts)))
      (Iff.trans (search_finds wf full (enables plan) starts (admitted_listed wf))
      (λ r. start_different r.3 r.4, different_start))
    where
      starts : List Config
      starts = starts_below j (length j.nodes)

  -- `faithful` says `Faithful`
  pub faithful_says : (faithful j plan ≡ true) ↔ Faithful j (enables plan)
  faithful_says =
      Iff.trans (contrary_says (faithful j plan) false different_says) (faithful_of, λ f d. different_not_faithful d f)

  -- a plan is faithful or different
  pub decided : Faithful j (enables plan) ⊎ Different j (enables plan)
  decided = go (faithful j plan) refl
    where
      go : (b : Bool) → faithful j plan ≡ b → Faithful j (enables plan) ⊎ Different j (enables plan)
      go true e = inl (faithful_says.0 e)
      go false e = inr (different_says.0 e)

-- ---- before sets

-- a place that `is_before` passes is before the node
is_before_lem : (n : ℕ) (x : Place) → is_before n x ≡ true → x ≡ before n
is_before_lem n (before m) h = ap before (eqb-true m n h)
is_before_lem n (past m) h = absurd (false≢true h)
is_before_lem n (ended m) h = absurd (false≢true h)

-- a pair that is reached before a node, under full watch for the first of its states, arrives there
pub pair_arrives : {j : Job} {w : Enabling} {n p q : ℕ} → Pair j full w (Admitted j) (before n) p q → Arrives j n p
pair_arrives {n = n} {p = p} {q = q} r =
    let a = (arrives_at_says (before n) p q).0 r in
    record { start = a.start; events = a.events; walk = a.walk; one = a.one; other = a.one }

-- a state that arrives is a pair with itself
pub arrives_pair : {j : Job} {n q : ℕ} → Arrives j n q → Pair j full full (Admitted j) (before n) q q
arrives_pair {n = n} {q = q} a = (arrives_at_says (before n) q q).1 a

-- `arrives` says `Arrives`
pub arrives_says : {j : Job} → WellFormedJob j → (n q : ℕ) → (arrives j n q ≡ true) ↔ Arrives j n q
unfolding arrives
arrives_says {j} wf n q =
    Iff.trans (configs_say wf full full (starts_below j (length j.nodes)) (admitted_listed wf) found) (there, back)
  where
    found : Config → Bool
    found c = is_before n c.place && eqb c.one q

    there : (x : Place) × (p : ℕ) × (r : ℕ) × Pair j full full (Admitted j) x p r × (found (config_of x p r) ≡ true) → Arrives j n q
    there r =
        let both = (and-eq-true_iff (is_before n r.0) (eqb r.1 q)).0 r.4 in
        pair_arrives (rw (is_before_lem n r.0 both.0, eqb-true r.1 q both.1) at r.3)

    back : Arrives j n q → (x : Place) × (p : ℕ) × (r : ℕ) × Pair j full full (Admitted j) x p r × (found (config_of x p r) ≡ true)
    back a = (before n, q, q, arrives_pair a, (and-eq-true_iff (eqb n n) (eqb q q)).1 (eq-eqb n n refl, eq-eqb q q refl))

-- ---- classes

module _ {j : Job} {n p q : ℕ} where
  -- two states are of one class where they are not told apart
  pub equivalent_says : Equivalent j n p q ↔ (Apart j n p q → ⊥)
  equivalent_says = alike_says (past n) p q

module _ {j : Job} (wf : WellFormedJob j) (n p q : ℕ) (node : n < length j.nodes) (one : p < j.rule.states) (other : q < j.rule.states) where
  -- `apart` says `Apart`
  pub apart_says : (apart j n p q ≡ true) ↔ Apart j n p q
  unfolding apart
  apart_says =
      Iff.trans (search_finds wf full full (config_of (past n) p q ∷ []) (only_listed (record { node = node; one = one; other = other })))
      (λ r. told r.3 r.4, λ a. (past n, p, q, only, a))
    where
      told : {x : Place} {k l : ℕ} → Only (past n) p q x k l → ApartAt j full full x k l → Apart j n p q
      told only a = a

  -- where it fails, the states are of one class
  pub apart_not_says : (apart j n p q ≡ false) ↔ Equivalent j n p q
  apart_not_says = Iff.trans (contrary_says (apart j n p q) true apart_says) (equivalent_says.1, equivalent_says.0)

-- ---- all tests

-- the tests decide what the walks of a job define
pub search_says : SearchSays
search_says =
    record {
      faithful_says = λ j wf plan. faithful_says wf plan;
      different_says = λ j wf plan. different_says wf plan;
      arrives_says = λ j wf n q. arrives_says wf n q;
      apart_says = λ j wf n p q node one other. apart_says wf n p q node one other;
      apart_not_says = λ j wf n p q node one other. apart_not_says wf n p q node one other;
    }
