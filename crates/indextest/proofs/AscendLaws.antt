-- Laws of the loop that tests whether edges ascend, in the shape of the code: an edge is a number, and each is above the one before.
-- Assumes nothing.
use mathlib.Core.Path.{◌≡◌, refl, sym}
use mathlib.Core.Logic.{◌↔◌, ⊎_elim, by_cases}
use mathlib.Core.Bool.{Bool, true, false, ◌&&◌, and-eq-true_iff}
use mathlib.Core.List.{List}
use Prim.Native.Nat.{ℕ, zero, suc, ◌+◌, ◌*◌, ◌≤◌, ◌<◌, zero-le}
use native.Mathlib.Decide.{dec_lt}
use native.Mathlib.Numerals.{add-one}
use native.Mathlib.Omega.{arith}
use lib.Dec.{eqb, ltb}
use lib.ListN.{get_or}
use borrow.Author.Tests.{ltb-true, eqb-true, lt-ltb, eq-eqb}
use Rattle.laws.specs.Bounded.{all_below}
use Rattle.laws.proofs.Bounded.{all_none, all_more, all_end, all_fails}
use Rattle.laws.proofs.Tests.{fails_of, or_passes, or_left, or_right}
use Rattle.job.specs.Job.{edge}
use Rattle.arrivals.specs.Arrivals.{edge_at, is_before, is_after_last, ascend_below}

-- an edge as a number
abbrev pub key_at : List ℕ → ℕ → ℕ
key_at l i = get_or l (2 * i) 0 * 65536 + get_or l (2 * i + 1) 0

-- the least number that may stand at a place
unfoldable pub least_at : List ℕ → ℕ → ℕ
least_at l zero = 0
least_at l (suc i) = key_at l i + 1

-- the test of an edge
abbrev pub ascends_at : ℕ → List ℕ → ℕ → Bool
ascends_at n l i = ltb (edge_at l i).from n && ltb (edge_at l i).to n && is_after_last l i

-- the first i edges have passed, and `least` is what the next one's number must reach
pub record Ascended (n : ℕ) (l : List ℕ) (i least : ℕ) : Type 0 where
  pub passed : all_below i (ascends_at n l) ≡ true
  pub least_is : least ≡ least_at l i

-- edges stand in the order of their numbers
before_says
    : (a b c d : ℕ) → b < 65536 → d < 65536 → (is_before (edge a b) (edge c d) ≡ true) ↔ (a * 65536 + b < c * 65536 + d)
before_says a b c d hb hd = (
  λ h.
      ⊎_elim
      (λ (q : ltb a c ≡ true). omega (arith, ltb-true a c q))
      (λ (q : (eqb a c && ltb b d) ≡ true).
      let both = (and-eq-true_iff (eqb a c) (ltb b d)).0 q in
      omega (arith, eqb-true a c both.0, ltb-true b d both.1))
      (or_passes (ltb a c) (eqb a c && ltb b d) h),
  λ h.
      by_cases (dec_lt a c)
      (λ (q : a < c). or_left (ltb a c) (eqb a c && ltb b d) (lt-ltb a c q))
      (λ (q : a < c → ⊥).
      or_right (ltb a c) (eqb a c && ltb b d)
      ((and-eq-true_iff (eqb a c) (ltb b d)).1 (eq-eqb a c (omega (arith, q, h)), lt-ltb b d (omega (arith, q, h))))),
)

-- no edge is tested yet
pub ascend_none : (n : ℕ) (l : List ℕ) → Ascended n l 0 0
unfolding least_at
ascend_none n l = record { passed = all_none (ascends_at n l); least_is = refl }

-- all are tested
pub ascend_all : (n : ℕ) (l : List ℕ) (k i least : ℕ) → Ascended n l i least → k ≤ i → true ≡ ascend_below n k l
unfolding ascend_below
ascend_all n l k i least s h = sym (all_end k i (ascends_at n l) s.passed h)

-- the test of a loop's turn, of a list of numbers below 65536
module _ (n : ℕ) (l : List ℕ) (small : (j : ℕ) → get_or l j 0 < 65536) where
  after_says : (i : ℕ) → (is_after_last l i ≡ true) ↔ (least_at l i ≤ key_at l i)
  unfolding least_at
  after_says zero = (λ h. zero-le, λ h. refl)
  after_says (suc i) =
      let s = before_says
      (get_or l (2 * i) 0) (get_or l (2 * i + 1) 0) (get_or l (2 * suc i) 0) (get_or l (2 * suc i + 1) 0)
      (small (2 * i + 1)) (small (2 * suc i + 1)) in
      (λ h. omega (arith, s.0 h), λ h. s.1 (omega (arith, h)))

  -- it passes where the three tests of the code do
  ascends_says
      : (i : ℕ) → (ascends_at n l i ≡ true) ↔ ((get_or l (2 * i) 0 < n) × (get_or l (2 * i + 1) 0 < n) × (least_at l i ≤ key_at l i))
  ascends_says i =
      let a = ltb (get_or l (2 * i) 0) n in
      let b = ltb (get_or l (2 * i + 1) 0) n in
      let outer = and-eq-true_iff (a && b) (is_after_last l i) in
      let inner = and-eq-true_iff a b in (
        λ h.
            let o = outer.0 h in
            let p = inner.0 o.0 in
            (ltb-true (get_or l (2 * i) 0) n p.0, ltb-true (get_or l (2 * i + 1) 0) n p.1, (after_says i).0 o.1),
        λ h.
            outer.1
            (inner.1 (lt-ltb (get_or l (2 * i) 0) n h.0, lt-ltb (get_or l (2 * i + 1) 0) n h.1), (after_says i).1 h.2),
      )

  -- one edge more
  pub ascend_more
      : (i least : ℕ) → Ascended n l i least → get_or l (2 * i) 0 < n → get_or l (2 * i + 1) 0 < n → least ≤ key_at l i
      → Ascended n l (i + 1) (key_at l i + 1)
  unfolding least_at
  ascend_more i least s p q h = record {
    passed = all_more i (ascends_at n l) s.passed ((ascends_says i).1 (p, q, rw s.least_is at h));
    least_is = rw (add-one i);
  }

  -- one does not pass
  pub ascend_stops
      : (k i least : ℕ) → Ascended n l i least → i < k
      → ((get_or l (2 * i) 0 < n) × (get_or l (2 * i + 1) 0 < n) × (least ≤ key_at l i) → ⊥) → false ≡ ascend_below n k l
  unfolding ascend_below
  ascend_stops k i least s h g =
      sym
      (all_fails k (ascends_at n l) i h
      (fails_of (ascends_at n l i) (λ y. let t = (ascends_says i).0 y in g (t.0, t.1, rw s.least_is t.2))))
