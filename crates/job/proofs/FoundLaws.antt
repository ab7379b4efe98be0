-- The before set, the lowest states, the class count and the nop mark say what document 01 says of them in walks.
-- Assumes nothing.
use mathlib.Core.Path.{◌≡◌, refl, sym, ap, ◌∙◌}
use mathlib.Core.Logic.{◌↔◌, ⊎_elim}
use mathlib.Core.Bool.{Bool, true, false, cond, not, ◌&&◌, true≢false, and-eq-true_iff}
use Prim.Native.Nat.{ℕ, zero, suc, ◌≤◌, ◌<◌}
use native.Mathlib.Nat.{le_step, le_of_suc-le-suc, not-suc-le-zero, eq-or-lt_of_le}
use native.Mathlib.Omega.{arith}
use lib.Dec.{eqb}
use borrow.Author.Tests.{eq-eqb, eqb-true, not-true}
use Rattle.laws.specs.Bits.{has, with}
use Rattle.laws.proofs.Tests.{passes_or_fails, or_passes, or_left, or_right}
use Rattle.laws.specs.Bounded.{sum_below}
use Rattle.laws.proofs.Bounded.{all_none, all_at, all_of, sum_front}
use Rattle.laws.proofs.Bits.{has_empty, has_with}
use Rattle.automaton.specs.Automaton.{next, final}
use Rattle.job.specs.Job.{Job, WellFormedJob}
use Rattle.job.specs.Found.{Arrives, set_of, lowest}
use Rattle.job.specs.FoundSays.{BeforeSays, LowestSays, SomeClass, NopSays}
use Rattle.job.specs.Search.{arrives, apart}
use Rattle.job.proofs.Decide.{arrives_says, arrives_pair, apart_says, apart_not_says, equivalent_says}
use Rattle.job.proofs.Bounds.{pair_within}

-- a number is in the set of those below k that pass when it is below k and passes
pub has_set_of : (k : ℕ) (f : ℕ → Bool) (i : ℕ) → (has (set_of k f) i ≡ true) ↔ ((i < k) × (f i ≡ true))
unfolding set_of
has_set_of zero f i = (λ h. absurd (true≢false (sym h ∙ has_empty i)), λ h. absurd (not-suc-le-zero h.0))
has_set_of (suc k) f i = go (f k) refl (has_set_of k f i)
  where
    go : (b : Bool) → f k ≡ b → (has (set_of k f) i ≡ true) ↔ ((i < k) × (f i ≡ true))
        → (has (cond b (with (set_of k f) k) (set_of k f)) i ≡ true) ↔ ((i < suc k) × (f i ≡ true))
    go true e r = (
      λ h.
          ⊎_elim (λ (m : has (set_of k f) i ≡ true). let g = r.0 m in (le_step g.0, g.1))
          (λ (m : eqb i k ≡ true). let q : i ≡ k = eqb-true i k m in (omega arith, ap f q ∙ e))
          (or_passes (has (set_of k f) i) (eqb i k) (sym (has_with (set_of k f) k i) ∙ h)),
      λ h.
          has_with (set_of k f) k i
          ∙ ⊎_elim (λ (q : i ≡ k). or_right (has (set_of k f) i) (eqb i k) (eq-eqb i k q))
          (λ (l : i < k). or_left (has (set_of k f) i) (eqb i k) (r.1 (l, h.1)))
          (eq-or-lt_of_le (le_of_suc-le-suc h.0)),
    )
    go false e r = (
      λ h. let g = r.0 h in (le_step g.0, g.1),
      λ h.
          ⊎_elim (λ (q : i ≡ k). absurd (true≢false (sym h.1 ∙ ap f q ∙ e))) (λ (l : i < k). r.1 (l, h.1))
          (eq-or-lt_of_le (le_of_suc-le-suc h.0)),
    )

-- a walk arrives in a state of the rule
arrives_below : {j : Job} {n q : ℕ} → WellFormedJob j → Arrives j n q → q < j.rule.states
arrives_below wf a = (pair_within wf (arrives_pair a)).one

-- the before set
pub before_says : BeforeSays
before_says j wf n q = (
  λ h. (arrives_says wf n q).0 ((has_set_of _ _ q).0 h).1,
  λ a. (has_set_of _ _ q).1 (arrives_below wf a, (arrives_says wf n q).1 a),
)

-- the lowest states
pub lowest_says : LowestSays
lowest_says j wf n q l s = (
  λ h p k e. equivalent_says.0 e ((apart_says wf n p q l (omega arith) s).0 (all_at q _ h p k)),
  λ h. all_of q _ (λ p k.
      ⊎_elim (λ (e : apart j n p q ≡ true). e)
      (λ (e : apart j n p q ≡ false). absurd (h p k ((apart_not_says wf n p q l (omega arith) s).0 e)))
      (passes_or_fails (apart j n p q))),
)

-- a sum whose first term is one
sum_some : (s : ℕ) (f : ℕ → ℕ) → 1 ≤ s → f 0 ≡ 1 → 1 ≤ sum_below s f
sum_some zero f h e = absurd (omega arith)
sum_some (suc s) f h e = omega (arith, sum_front s f, e)

-- the class count: state 0 is lowest
pub some_class : SomeClass
some_class j wf n =
    sum_some j.rule.states (λ q. cond (lowest j n q) 1 0) wf.rule.some_state (ap (λ (b : Bool). cond b 1 0) (all_none (λ p. apart j n p 0)))

-- the nop mark
pub nop_says : NopSays
nop_says j wf n a l s = (
  λ h q r.
      let k : q < j.rule.states = arrives_below wf r in
      let m : next j.rule q a < j.rule.states = wf.rule.next_below q a k s in
      ⊎_elim
      (λ (e : not (arrives j n q) ≡ true). absurd (true≢false (sym ((arrives_says wf n q).1 r) ∙ not-true _ e)))
      (λ (e : (not (final j.rule (next j.rule q a)) && not (apart j n (next j.rule q a) q)) ≡ true).
      let both = (and-eq-true_iff _ _).0 e in
      (not-true _ both.0, (apart_not_says wf n (next j.rule q a) q l m k).0 (not-true _ both.1)))
      (or_passes _ _ (all_at j.rule.states _ h q k)),
  λ h. all_of j.rule.states _ (λ q k.
      let m : next j.rule q a < j.rule.states = wf.rule.next_below q a k s in
      ⊎_elim
      (λ (e : arrives j n q ≡ true).
      let both = h q ((arrives_says wf n q).0 e) in
      or_right (not (arrives j n q)) _
      ((and-eq-true_iff _ _).1 (ap not both.0, ap not ((apart_not_says wf n (next j.rule q a) q l m k).1 both.1))))
      (λ (e : arrives j n q ≡ false). or_left _ _ (ap not e))
      (passes_or_fails (arrives j n q))),
)
