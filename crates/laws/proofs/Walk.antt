-- The walk of a set by its lowest member: `trailing_zeros` finds the member, `s & (s - 1)` takes it out.
-- Assumes nothing.
use Prim.Native.Nat.{ℕ, zero, suc, ◌+◌, ◌-◌, ◌*◌, ◌/◌, ◌%◌, ◌^◌, ◌≤◌, ◌<◌, min}
use mathlib.Core.Path.{◌≡◌, refl, sym, ap, ◌∙◌}
use mathlib.Core.Logic.{◌≢◌, ⊎_elim, by_cases, ◌⊎◌, inl, inr}
use mathlib.Core.Bool.{true, false, true≢false}
use native.Mathlib.Nat.{le_of_suc-le-suc, not-suc-le-zero, lt_of_le_of_lt, lt_trans, ne_of_gt}
use native.Mathlib.Decide.{dec_lt, dec_le, ℕ_discrete}
use native.Mathlib.Omega.{arith}
use lib.Bits.{bit_and, and_le_r, and_step, and_self}
use lib.Count.{count_trailing_zeros}
use Rattle.laws.specs.Bits.{has, with, image}
use Rattle.laws.proofs.Bits.{bit_zero, bit_suc, has_same, has_empty, has_below, half_lt}
use Rattle.laws.proofs.Image.{image_with, image_skip}

-- ---- the lowest member

-- a number is even or odd
even_or_odd : (s : ℕ) → (s % 2 ≡ 0) ⊎ (s % 2 ≡ 1)
even_or_odd s = go (s % 2) refl
  where
    go : (b : ℕ) → s % 2 ≡ b → (s % 2 ≡ 0) ⊎ (s % 2 ≡ 1)
    go zero e = inl e
    go (suc b) e = inr (omega arith)

-- 0 is a member of an odd number
has_zero_odd : (s : ℕ) → s % 2 ≡ 1 → has s 0 ≡ true
unfolding has
has_zero_odd s e = rw (bit_zero s, e)

-- 0 is no member of an even number
has_zero_even : (s : ℕ) → s % 2 ≡ 0 → has s 0 ≡ false
unfolding has
has_zero_even s e = rw (bit_zero s, e)

-- a higher member is one of the half
has_half : (s i : ℕ) → has s (suc i) ≡ has (s / 2) i
has_half s i = has_same s (s / 2) (suc i) i (bit_suc s i)

-- `trailing_zeros` of a set that is not empty is a member
pub trailing_member : (w s : ℕ) → 0 < s → s < 2 ^ w → has s (count_trailing_zeros w s) ≡ true
unfolding count_trailing_zeros
trailing_member zero s p h = absurd (omega arith)
trailing_member (suc w) s p h =
    ⊎_elim
    (λ (e : s % 2 ≡ 0).
    rw e (has_half s (count_trailing_zeros w (s / 2)) ∙ trailing_member w (s / 2) (omega arith) (half_lt w s h)))
    (λ (e : s % 2 ≡ 1). rw e (has_zero_odd s e))
    (even_or_odd s)

-- no member is below it
pub trailing_none : (w s i : ℕ) → i < count_trailing_zeros w s → has s i ≡ false
unfolding count_trailing_zeros
trailing_none zero s i l = absurd (not-suc-le-zero l)
trailing_none (suc w) s zero l =
    ⊎_elim
    (λ (e : s % 2 ≡ 0). has_zero_even s e)
    (λ (e : s % 2 ≡ 1). absurd (not-suc-le-zero (rw e at l)))
    (even_or_odd s)
trailing_none (suc w) s (suc i) l =
    ⊎_elim
    (λ (e : s % 2 ≡ 0). has_half s i ∙ trailing_none w (s / 2) i (le_of_suc-le-suc (rw e at l)))
    (λ (e : s % 2 ≡ 1). absurd (not-suc-le-zero (rw e at l)))
    (even_or_odd s)

-- ---- the set without it

-- the set without its lowest member is smaller
pub clear_lt : (s : ℕ) → 0 < s → bit_and s (s - 1) < s
clear_lt s p = lt_of_le_of_lt (and_le_r s (s - 1)) (omega arith)

-- an odd number loses its last digit
clear_odd : (s : ℕ) → s % 2 ≡ 1 → bit_and s (s - 1) ≡ s / 2 * 2
clear_odd s e =
    let half : (s - 1) / 2 ≡ s / 2 = omega arith in
    let bits : bit_and s (s - 1) ≡ bit_and (s / 2) ((s - 1) / 2) * 2 + min (s % 2) ((s - 1) % 2) = and_step s (s - 1) in
    omega (arith, rw (half, and_self (s / 2)) at bits)

-- an even number loses the lowest member of its half
clear_even : (s : ℕ) → 0 < s → s % 2 ≡ 0 → bit_and s (s - 1) ≡ bit_and (s / 2) (s / 2 - 1) * 2
clear_even s p e =
    let half : (s - 1) / 2 ≡ s / 2 - 1 = omega arith in
    let bits : bit_and s (s - 1) ≡ bit_and (s / 2) ((s - 1) / 2) * 2 + min (s % 2) ((s - 1) % 2) = and_step s (s - 1) in
    omega (arith, rw half at bits)

-- 0 is no member of twice a number
twice_zero : (n : ℕ) → has (n * 2) 0 ≡ false
twice_zero n = has_zero_even (n * 2) (omega arith)

-- the other members of twice a number are one higher than its own
twice_suc : (n i : ℕ) → has (n * 2) (suc i) ≡ has n i
twice_suc n i = let half : n * 2 / 2 ≡ n = omega arith in has_half (n * 2) i ∙ rw half refl

-- the lowest member is out
pub has_clear_same : (w s : ℕ) → 0 < s → s < 2 ^ w → has (bit_and s (s - 1)) (count_trailing_zeros w s) ≡ false
unfolding count_trailing_zeros
has_clear_same zero s p h = absurd (omega arith)
has_clear_same (suc w) s p h =
    ⊎_elim
    (λ (e : s % 2 ≡ 0).
    rw (e, clear_even s p e)
    (twice_suc (bit_and (s / 2) (s / 2 - 1)) (count_trailing_zeros w (s / 2))
    ∙ has_clear_same w (s / 2) (omega arith) (half_lt w s h)))
    (λ (e : s % 2 ≡ 1). rw (e, clear_odd s e) (twice_zero (s / 2)))
    (even_or_odd s)

-- the other members stay
pub has_clear_other
    : (w s i : ℕ) → 0 < s → s < 2 ^ w → i ≢ count_trailing_zeros w s → has (bit_and s (s - 1)) i ≡ has s i
unfolding count_trailing_zeros
has_clear_other zero s i p h ne = absurd (omega arith)
has_clear_other (suc w) s zero p h ne =
    ⊎_elim
    (λ (e : s % 2 ≡ 0). rw (clear_even s p e) (twice_zero (bit_and (s / 2) (s / 2 - 1)) ∙ sym (has_zero_even s e)))
    (λ (e : s % 2 ≡ 1). absurd ((rw e at ne) refl))
    (even_or_odd s)
has_clear_other (suc w) s (suc i) p h ne =
    ⊎_elim
    (λ (e : s % 2 ≡ 0).
    rw (clear_even s p e)
    (twice_suc (bit_and (s / 2) (s / 2 - 1)) i
    ∙ has_clear_other w (s / 2) i (omega arith) (half_lt w s h) (λ q. (rw e at ne) (ap suc q))
    ∙ sym (has_half s i)))
    (λ (e : s % 2 ≡ 1). rw (clear_odd s e) (twice_suc (s / 2) i ∙ sym (has_half s i)))
    (even_or_odd s)

-- ---- the walk

-- rest is the members of s from t on
pub record Rest (w s rest t : ℕ) : Type 0 where
  pub short : rest < 2 ^ w
  pub kept : (i : ℕ) → t ≤ i → has rest i ≡ has s i
  pub gone : (i : ℕ) → i < t → has rest i ≡ false

-- the walk starts with the whole set
pub rest_start : (w s : ℕ) → s < 2 ^ w → Rest w s s 0
rest_start w s h = record { short = h; kept = λ i l. refl; gone = λ i l. absurd (not-suc-le-zero l) }

module _ {w s rest t : ℕ} (r : Rest w s rest t) where
  -- the next member is not below t
  pub rest_from : 0 < rest → t ≤ count_trailing_zeros w rest
  rest_from p =
      by_cases (dec_le t (count_trailing_zeros w rest))
      (λ l. l)
      (λ g. absurd (true≢false (sym (trailing_member w rest p r.short) ∙ r.gone (count_trailing_zeros w rest) (omega arith))))

  -- it is a member of s
  pub rest_low : 0 < rest → has s (count_trailing_zeros w rest) ≡ true
  rest_low p = sym (r.kept (count_trailing_zeros w rest) (rest_from p)) ∙ trailing_member w rest p r.short

  -- it is below the width
  pub rest_lt : 0 < rest → count_trailing_zeros w rest < w
  rest_lt p = has_below w rest (count_trailing_zeros w rest) r.short (trailing_member w rest p r.short)

  -- there is none between
  pub rest_none : (i : ℕ) → t ≤ i → i < count_trailing_zeros w rest → has s i ≡ false
  rest_none i l m = sym (r.kept i l) ∙ trailing_none w rest i m

  -- a step of the walk
  pub rest_next : 0 < rest → Rest w s (bit_and rest (rest - 1)) (count_trailing_zeros w rest + 1)
  rest_next p = record {
    short = lt_trans (clear_lt rest p) r.short;
    kept = λ i l.
        has_clear_other w rest i p r.short (ne_of_gt (omega arith)) ∙ r.kept i (omega (arith, rest_from p));
    gone = λ i l.
        by_cases (ℕ_discrete i (count_trailing_zeros w rest))
        (λ (e : i ≡ count_trailing_zeros w rest). rw e (has_clear_same w rest p r.short))
        (λ (ne : i ≢ count_trailing_zeros w rest).
        has_clear_other w rest i p r.short ne ∙ trailing_none w rest i (omega arith));
  }

  -- the end of the walk
  pub rest_done : rest ≡ 0 → (i : ℕ) → t ≤ i → has s i ≡ false
  rest_done e i l = sym (r.kept i l) ∙ rw e (has_empty i)

  -- what holds of the members passed and of the next one holds of all up to it
  pub members_more
      : (P : ℕ → Type 0) → 0 < rest → ((i : ℕ) → i < t → has s i ≡ true → P i) → P (count_trailing_zeros w rest)
      → (i : ℕ) → i < count_trailing_zeros w rest + 1 → has s i ≡ true → P i
  members_more P p all here i l m =
      by_cases (ℕ_discrete i (count_trailing_zeros w rest))
      (λ (e : i ≡ count_trailing_zeros w rest). rw e here)
      (λ (ne : i ≢ count_trailing_zeros w rest).
      by_cases (dec_lt i t)
      (λ k. all i k m)
      (λ g. absurd (true≢false (sym m ∙ rest_none i (omega arith) (omega arith)))))

  -- at the end it holds of all members
  pub members_end
      : (P : ℕ → Type 0) → rest ≡ 0 → ((i : ℕ) → i < t → has s i ≡ true → P i) → (i : ℕ) → has s i ≡ true → P i
  members_end P e all i m =
      by_cases (dec_lt i t) (λ k. all i k m) (λ g. absurd (true≢false (sym m ∙ rest_done e i (omega arith))))

  -- a step of the walk adds the next member's image
  pub image_next
      : (f : ℕ → ℕ) → 0 < rest → with (image t f s) (f (count_trailing_zeros w rest)) ≡ image (count_trailing_zeros w rest + 1) f s
  image_next f p =
      ap (λ (n : ℕ). with n (f (count_trailing_zeros w rest)))
      (sym (image_skip t (count_trailing_zeros w rest) f s (rest_from p) (rest_none)))
      ∙ sym (image_with (count_trailing_zeros w rest) f s (rest_low p))

  -- at the end the image is whole
  pub image_end : (n : ℕ) (f : ℕ → ℕ) → rest ≡ 0 → t ≤ n → image t f s ≡ image n f s
  image_end n f e l = sym (image_skip t n f s l (λ i m k. rest_done e i m))
