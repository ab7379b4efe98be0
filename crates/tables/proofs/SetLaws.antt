-- Laws of the set of the numbers below a bound that pass a test.
-- Assumes nothing.
use mathlib.Core.Path.{◌≡◌, refl, sym, ap, ◌∙◌}
use mathlib.Core.Logic.{◌≢◌, by_cases}
use mathlib.Core.Bool.{Bool, true, false, cond, ◌&&◌, and-eq-true_iff, and-false}
use Prim.Native.Nat.{ℕ, ◌+◌, ◌*◌, ◌/◌, ◌%◌, ◌^◌, ◌≤◌, ◌<◌}
use native.Mathlib.Nat.{lt_of_lt_of_le, zero-mul, zero-mod}
use native.Mathlib.Decide.{ℕ_discrete, le_ind}
use native.Mathlib.Numerals.{add-one}
use native.Mathlib.Omega.{arith}
use lib.Bits.{bit_and, bit_or, or_zero_r, and_mask}
use lib.Dec.{eqb, ltb}
use borrow.Author.Tests.{lt-ltb, le-ltb, ltb-true, ne_eqb}
use Rattle.laws.specs.Bounded.{sum_below}
use Rattle.laws.specs.Bits.{bit, has, with}
use Rattle.laws.proofs.Tests.{test_ext}
use Rattle.laws.proofs.Bounded.{sum_cong}
use Rattle.laws.proofs.Bits.{bit_member, bit_none, has_empty, has_and, has_pow, members_below, same_set, one_shl}
use Rattle.job.specs.Found.{set_of}
use Rattle.job.proofs.FoundLaws.{has_set_of}

-- it has those below k that pass
pub has_set_test : (k : ℕ) (f : ℕ → Bool) (i : ℕ) → has (set_of k f) i ≡ (ltb i k && f i)
has_set_test k f i =
    test_ext (has (set_of k f) i) (ltb i k && f i)
    (λ h. let r = (has_set_of k f i).0 h in (and-eq-true_iff (ltb i k) (f i)).1 (lt-ltb i k r.0, r.1))
    (λ h. let r = (and-eq-true_iff (ltb i k) (f i)).0 h in (has_set_of k f i).1 (ltb-true i k r.0, r.1))

-- it is a set of width w, where k is at most w
pub set_of_lt : (w k : ℕ) (f : ℕ → Bool) → k ≤ w → set_of k f < 2 ^ w
set_of_lt w k f l = members_below w (set_of k f) (λ i h. lt_of_lt_of_le ((has_set_of k f i).0 h).0 l)

-- tests that agree below k give one set
pub set_of_cong : (k : ℕ) (f g : ℕ → Bool) → ((i : ℕ) → i < k → f i ≡ g i) → set_of k f ≡ set_of k g
set_of_cong k f g h =
    same_set (set_of k f) (set_of k g)
    (λ i. test_ext (has (set_of k f) i) (has (set_of k g) i)
    (λ m. let r = (has_set_of k f i).0 m in (has_set_of k g i).1 (r.0, sym (h i r.0) ∙ r.1))
    (λ m. let r = (has_set_of k g i).0 m in (has_set_of k f i).1 (r.0, h i r.0 ∙ r.1)))

-- a loop that starts at 0 has an empty set
pub set_of_none : (f : ℕ → Bool) → set_of 0 f ≡ 0
unfolding set_of
set_of_none f = refl

-- a loop that has the set below k joins k where it passes
pub set_of_more : (k : ℕ) (f : ℕ → Bool) (s : ℕ) → s ≡ cond (f k) (2 ^ k) 0 → bit_or (set_of k f) s ≡ set_of (k + 1) f
unfolding set_of
set_of_more k f s e = rw (add-one, e) (go (f k))
  where
    go : (b : Bool) → bit_or (set_of k f) (cond b (2 ^ k) 0) ≡ cond b (with (set_of k f) k) (set_of k f)
    go true = refl
    go false = or_zero_r (set_of k f)

-- what the contract of `((s >> q) & 1) << k` says, where k is below the width
pub moved_bit : (w s q k : ℕ) → k < w → (bit_and (s / 2 ^ q) 1 * 2 ^ k) % 2 ^ w ≡ cond (has s q) (2 ^ k) 0
moved_bit w s q k l = ap (λ (n : ℕ). (n * 2 ^ k) % 2 ^ w) (and_mask (s / 2 ^ q) 1) ∙ go (has s q) refl
  where
    go : (b : Bool) → has s q ≡ b → (bit s q * 2 ^ k) % 2 ^ w ≡ cond b (2 ^ k) 0
    go true e = rw (bit_member s q e) (one_shl w k l)
    go false e = rw (bit_none s q e, zero-mul (2 ^ k)) (zero-mod (2 ^ w))

-- what the contract of `s & (1 << k)` says, where k is below the width
pub kept_bit : (w s k : ℕ) → k < w → bit_and s ((1 * 2 ^ k) % 2 ^ w) ≡ cond (has s k) (2 ^ k) 0
kept_bit w s k l = ap (bit_and s) (one_shl w k l) ∙ go (has s k) refl
  where
    go : (b : Bool) → has s k ≡ b → bit_and s (2 ^ k) ≡ cond b (2 ^ k) 0
    go b e =
        same_set (bit_and s (2 ^ k)) (cond b (2 ^ k) 0)
        (λ i. has_and s (2 ^ k) i ∙ ap (λ (x : Bool). has s i && x) (has_pow k i) ∙ at i b e)
      where
        at : (i : ℕ) (b : Bool) → has s k ≡ b → (has s i && eqb i k) ≡ has (cond b (2 ^ k) 0) i
        at i true e =
            by_cases (ℕ_discrete i k)
            (λ (q : i ≡ k). rw (q, has_pow k k, e))
            (λ (ne : i ≢ k). rw (has_pow k i, ne_eqb i k ne) (and-false (has s i)))
        at i false e =
            by_cases (ℕ_discrete i k)
            (λ (q : i ≡ k). rw (q, e, has_empty k))
            (λ (ne : i ≢ k). rw (has_empty i, ne_eqb i k ne) (and-false (has s i)))

-- terms that are 0 from k on add nothing
sum_short : (w k : ℕ) (f : ℕ → ℕ) → k ≤ w → ((i : ℕ) → k ≤ i → f i ≡ 0) → sum_below w f ≡ sum_below k f
unfolding sum_below
sum_short w k f l h =
    le_ind (λ (n : ℕ). sum_below n f ≡ sum_below k f) refl (λ n m rest. omega (arith, rest, h n m)) w l

-- the sum of its bits, over any width that has them all, counts those that pass
pub sum_set_of : (w k : ℕ) (f : ℕ → Bool) → k ≤ w → sum_below w (bit (set_of k f)) ≡ sum_below k (λ i. cond (f i) 1 0)
sum_set_of w k f l =
    sum_short w k (bit (set_of k f)) l
    (λ i m. bit_none (set_of k f) i (has_set_test k f i ∙ ap (λ (b : Bool). b && f i) (le-ltb i k m)))
    ∙ sum_cong k (bit (set_of k f)) (λ i. cond (f i) 1 0) (λ i m. go i m (f i) refl)
  where
    go : (i : ℕ) → i < k → (b : Bool) → f i ≡ b → bit (set_of k f) i ≡ cond b 1 0
    go i m true e = bit_member (set_of k f) i ((has_set_of k f i).1 (m, e))
    go i m false e = bit_none (set_of k f) i (has_set_test k f i ∙ rw (lt-ltb i k m, e))
