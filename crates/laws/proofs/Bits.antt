-- Laws of sets of numbers as one number, over any width.
-- Assumes nothing.
use Prim.Native.Nat.{ℕ, zero, suc, ◌+◌, ◌*◌, ◌/◌, ◌%◌, ◌^◌, ◌≤◌, ◌<◌, min, max}
use mathlib.Core.Path.{◌≡◌, refl, sym, ap, subst, ◌∙◌}
use mathlib.Core.Logic.{◌≢◌, ◌↔◌, ⊎_elim, by_cases}
use mathlib.Core.Bool.{Bool, true, false, ◌&&◌, ◌||◌, true≢false, or-true, or-false, and-false, and-eq-true_iff}
use native.Mathlib.Nat.{le_of_suc-le-suc, not-suc-le-zero, lt_of_lt_of_le, lt_of_not-le, le-add_right, le-add_left}
use native.Mathlib.Nat.{one-mul, pow-suc, mod-lt, mod-eq_of_lt, div-one, div_self, zero-div, div-eq_of_lt, div-lt_iff_lt-mul}
use native.Mathlib.Numerals.{add-one, one-add}
use native.Mathlib.Decide.{ℕ_discrete, dec_lt}
use native.Mathlib.Omega.{arith}
use lib.Dec.{eqb, leb, lit<}
use lib.Pow.{pow_pos, pow_mono, pow-lt, shl-shr, shr-shr, shr_lt, field, mod-mod-pow}
use lib.Bits.{bit_or, bit_and, or_step, and_step, or_shr, and_shr, or_lt, or_disjoint, shifted_half, shifted_even}
use borrow.Author.Tests.{eq-eqb, ne_eqb, eqb-true, eqb-false, le-leb, leb-true}
use Rattle.laws.specs.Bits.{bit, has, with}
use Rattle.laws.specs.Bounded.{any_below}
use Rattle.laws.proofs.Bounded.{any_at, any_none_at}
use Rattle.laws.proofs.Tests.{fails_of, passes_or_fails}

-- ---- bits

-- a bit is 0 or 1
pub bit_lt : (s i : ℕ) → bit s i < 2
bit_lt s i = mod-lt (s / 2 ^ i) (lit< tt)

-- the lowest bit
pub bit_zero : (s : ℕ) → bit s 0 ≡ s % 2
bit_zero s = ap (λ (n : ℕ). n % 2) (div-one s)

-- a higher bit is a bit of the half
pub bit_suc : (s i : ℕ) → bit s (suc i) ≡ bit (s / 2) i
bit_suc s i = ap (λ (n : ℕ). n % 2) (ap (λ (n : ℕ). s / 2 ^ n) (sym (one-add i)) ∙ sym (shr-shr s 1 i))

-- 0 has no bits
pub bit_of_zero : (i : ℕ) → bit 0 i ≡ 0
bit_of_zero i = ap (λ (n : ℕ). n % 2) (zero-div (2 ^ i))

-- a bit of a union
pub bit_or_lem : (a b i : ℕ) → bit (bit_or a b) i ≡ max (bit a i) (bit b i)
bit_or_lem a b i = rw (or_shr a b i) (omega (arith, or_step (a / 2 ^ i) (b / 2 ^ i)))

-- a bit of an intersection
pub bit_and_lem : (a b i : ℕ) → bit (bit_and a b) i ≡ min (bit a i) (bit b i)
bit_and_lem a b i = rw (and_shr a b i) (omega (arith, and_step (a / 2 ^ i) (b / 2 ^ i)))

-- a bit of a shift to the right
pub bit_shr : (s k i : ℕ) → bit (s / 2 ^ k) i ≡ bit s (k + i)
bit_shr s k i = ap (λ (n : ℕ). n % 2) (shr-shr s k i)

-- a bit of a shift to the left
pub bit_shl : (s k i : ℕ) → bit (s * 2 ^ k) (k + i) ≡ bit s i
bit_shl s k i = sym (bit_shr (s * 2 ^ k) k i) ∙ ap (λ (n : ℕ). bit n i) (shl-shr s k)

-- the bits that a shift to the left brings in
pub bit_shl_low : (s k i : ℕ) → i < k → bit (s * 2 ^ k) i ≡ 0
bit_shl_low s zero i l = absurd (not-suc-le-zero l)
bit_shl_low s (suc k) zero l = bit_zero (s * 2 ^ suc k) ∙ shifted_even s k
bit_shl_low s (suc k) (suc i) l =
    bit_suc (s * 2 ^ suc k) i ∙ ap (λ (n : ℕ). bit n i) (shifted_half s k) ∙ bit_shl_low s k i (le_of_suc-le-suc l)

-- a width that holds bit i keeps it
pub bit_mod : (s w i : ℕ) → i < w → bit (s % 2 ^ w) i ≡ bit s i
bit_mod s zero i l = absurd (not-suc-le-zero l)
bit_mod s (suc w) zero l =
    bit_zero (s % 2 ^ suc w) ∙ ap (λ (n : ℕ). s % 2 ^ n % 2) (sym (add-one w)) ∙ mod-mod-pow s w 1 ∙ sym (bit_zero s)
bit_mod s (suc w) (suc i) l =
    bit_suc (s % 2 ^ suc w) i ∙ ap (λ (n : ℕ). bit n i) (ap (λ (n : ℕ). s % 2 ^ n / 2) (sym (add-one w)) ∙ field s w 1)
    ∙ bit_mod (s / 2) w i (le_of_suc-le-suc l) ∙ sym (bit_suc s i)

-- the one bit of a power
pub bit_pow_same : (k : ℕ) → bit (2 ^ k) k ≡ 1
bit_pow_same k = ap (λ (n : ℕ). n % 2) (div_self (pow_pos k))

-- the other bits of a power
pub bit_pow_other : (k i : ℕ) → i ≢ k → bit (2 ^ k) i ≡ 0
bit_pow_other k i ne =
    by_cases (dec_lt i k)
    (λ (l : i < k). ap (λ (n : ℕ). bit n i) (sym (one-mul (2 ^ k))) ∙ bit_shl_low 1 k i l)
    (λ g. ap (λ (n : ℕ). n % 2) (div-eq_of_lt (pow-lt (omega arith))))

-- what the contract of `1 << k` says, where k is below the width
pub one_shl : (w k : ℕ) → k < w → (1 * 2 ^ k) % 2 ^ w ≡ 2 ^ k
one_shl w k l = ap (λ (n : ℕ). n % 2 ^ w) (one-mul (2 ^ k)) ∙ mod-eq_of_lt (pow-lt l)

-- ---- members

-- equal bits say the same of membership
pub has_same : (s t i j : ℕ) → bit s i ≡ bit t j → has s i ≡ has t j
unfolding has
has_same s t i j e = ap (λ (n : ℕ). eqb n 1) e

-- a member's bit
pub bit_member : (s i : ℕ) → has s i ≡ true → bit s i ≡ 1
unfolding has
bit_member s i h = eqb-true (bit s i) 1 h

-- the bit of a number that is no member
pub bit_none : (s i : ℕ) → has s i ≡ false → bit s i ≡ 0
unfolding has
bit_none s i h = let ne = eqb-false (bit s i) 1 h in omega (arith, bit_lt s i, ne)

-- the empty set
pub has_empty : (i : ℕ) → has 0 i ≡ false
unfolding has
has_empty i = rw (bit_of_zero i)

-- what holds of 0 and of 1 holds of a bit
bit_cases : (P : ℕ → Type 0) → P 0 → P 1 → (n : ℕ) → n < 2 → P n
bit_cases P z o zero l = z
bit_cases P z o (suc zero) l = o
bit_cases P z o (suc (suc n)) l = absurd (not-suc-le-zero (le_of_suc-le-suc (le_of_suc-le-suc l)))

-- the larger of two bits is set where one of them is
or_test : (m n : ℕ) → m < 2 → n < 2 → eqb (max m n) 1 ≡ (eqb m 1 || eqb n 1)
or_test m n p q =
    bit_cases (λ (x : ℕ). eqb (max x n) 1 ≡ (eqb x 1 || eqb n 1))
    (bit_cases (λ (y : ℕ). eqb (max 0 y) 1 ≡ eqb y 1) refl refl n q)
    (bit_cases (λ (y : ℕ). eqb (max 1 y) 1 ≡ true) refl refl n q)
    m p

-- the smaller of two bits is set where both are
and_test : (m n : ℕ) → m < 2 → n < 2 → eqb (min m n) 1 ≡ (eqb m 1 && eqb n 1)
and_test m n p q =
    bit_cases (λ (x : ℕ). eqb (min x n) 1 ≡ (eqb x 1 && eqb n 1))
    (bit_cases (λ (y : ℕ). eqb (min 0 y) 1 ≡ false) refl refl n q)
    (bit_cases (λ (y : ℕ). eqb (min 1 y) 1 ≡ eqb y 1) refl refl n q)
    m p

-- the members of a union
pub has_or : (a b i : ℕ) → has (bit_or a b) i ≡ (has a i || has b i)
unfolding has
has_or a b i = ap (λ (n : ℕ). eqb n 1) (bit_or_lem a b i) ∙ or_test (bit a i) (bit b i) (bit_lt a i) (bit_lt b i)

-- the members of an intersection
pub has_and : (a b i : ℕ) → has (bit_and a b) i ≡ (has a i && has b i)
unfolding has
has_and a b i = ap (λ (n : ℕ). eqb n 1) (bit_and_lem a b i) ∙ and_test (bit a i) (bit b i) (bit_lt a i) (bit_lt b i)

-- the one member of a power
pub has_pow : (k i : ℕ) → has (2 ^ k) i ≡ eqb i k
unfolding has
has_pow k i =
    by_cases (ℕ_discrete i k)
    (λ (e : i ≡ k). rw (e, bit_pow_same k) (sym (eq-eqb k k refl)))
    (λ (ne : i ≢ k). rw (bit_pow_other k i ne) (sym (ne_eqb i k ne)))

-- the members of the set with k
pub has_with : (s k i : ℕ) → has (with s k) i ≡ (has s i || eqb i k)
has_with s k i = has_or s (2 ^ k) i ∙ ap (λ (b : Bool). has s i || b) (has_pow k i)

-- k is a member of the set with k
pub has_with_same : (s k : ℕ) → has (with s k) k ≡ true
has_with_same s k = has_with s k k ∙ rw (eq-eqb k k refl) (or-true (has s k))

-- membership of another number is as before
pub has_with_other : (s k i : ℕ) → i ≢ k → has (with s k) i ≡ has s i
has_with_other s k i ne = has_with s k i ∙ rw (ne_eqb i k ne) (or-false (has s i))

-- ---- widths

-- a set of width w with a number below w is one of width w
pub with_lt : (w s k : ℕ) → s < 2 ^ w → k < w → with s k < 2 ^ w
with_lt w s k h l = or_lt w s (2 ^ k) h (pow-lt l)

-- a set of width w has no members from w on
pub has_past : (w s i : ℕ) → s < 2 ^ w → w ≤ i → has s i ≡ false
unfolding has
has_past w s i h l = rw (div-eq_of_lt (lt_of_lt_of_le h (pow_mono l)))

-- the members of a set of width n are below n
pub has_below : (n s i : ℕ) → s < 2 ^ n → has s i ≡ true → i < n
has_below n s i h m = lt_of_not-le (λ l. true≢false (sym m ∙ has_past n s i h l))

-- the half of a set of width w + 1 has width w
pub half_lt : (w n : ℕ) → n < 2 ^ suc w → n / 2 < 2 ^ w
half_lt w n l = shr_lt w 1 (rw add-one l)

-- two numbers of width w with the same bits below w are one
ext_bits : (w s t : ℕ) → s < 2 ^ w → t < 2 ^ w → ((i : ℕ) → i < w → bit s i ≡ bit t i) → s ≡ t
ext_bits zero s t h k same = omega arith
ext_bits (suc w) s t h k same =
    let low : s % 2 ≡ t % 2 = rw (bit_zero s, bit_zero t) at (same 0 (omega arith)) in
    let high : s / 2 ≡ t / 2 =
    ext_bits w (s / 2) (t / 2) (half_lt w s h) (half_lt w t k)
    (λ i l. sym (bit_suc s i) ∙ same (suc i) (omega arith) ∙ bit_suc t i) in
    omega arith

-- two sets of width w with the same members below w are one
pub set_ext : (w s t : ℕ) → s < 2 ^ w → t < 2 ^ w → ((i : ℕ) → i < w → has s i ≡ has t i) → s ≡ t
set_ext w s t h k same =
    ext_bits w s t h k
    (λ i l.
    ⊎_elim
    (λ (p : has t i ≡ true). bit_member s i (same i l ∙ p) ∙ sym (bit_member t i p))
    (λ (p : has t i ≡ false). bit_none s i (same i l ∙ p) ∙ sym (bit_none t i p))
    (passes_or_fails (has t i)))

-- a number is below its power
lt_pow : (n : ℕ) → n < 2 ^ n
lt_pow zero = omega arith
lt_pow (suc n) = omega (arith, lt_pow n, pow-suc 2 n)

-- two sets with the same members are one
pub same_set : (s t : ℕ) → ((i : ℕ) → has s i ≡ has t i) → s ≡ t
same_set s t same =
    set_ext (s + t) s t
    (lt_of_lt_of_le (lt_pow s) (pow_mono (le-add_right s t)))
    (lt_of_lt_of_le (lt_pow t) (pow_mono (le-add_left t s)))
    (λ i l. same i)

-- a set whose members are below n is one of width n
pub members_below : (n s : ℕ) → ((i : ℕ) → has s i ≡ true → i < n) → s < 2 ^ n
members_below n s h =
    subst (λ (x : ℕ). x < 2 ^ n) (same_set (s % 2 ^ n) s same) (mod-lt s (pow_pos n))
  where
    same : (i : ℕ) → has (s % 2 ^ n) i ≡ has s i
    same i =
        by_cases (dec_lt i n)
        (λ (l : i < n). has_same (s % 2 ^ n) s i i (bit_mod s n i l))
        (λ (g : i < n → ⊥). has_past n (s % 2 ^ n) i (mod-lt s (pow_pos n)) (omega arith) ∙ sym (fails_of (has s i) (λ m. g (h i m))))

-- a number below 2 ^ n is a set of numbers below n
pub below_says : (n s : ℕ) → (s < 2 ^ n) ↔ ((i : ℕ) → has s i ≡ true → i < n)
below_says n s = (λ l i. has_below n s i l, members_below n s)

-- a shift to the right by n leaves nothing where the set has width n, and only there
pub shr_zero_says : (n s : ℕ) → (s / 2 ^ n ≡ 0) ↔ (s < 2 ^ n)
shr_zero_says n s =
    (λ e. rw one-mul at ((div-lt_iff_lt-mul {x = s} {y = 1} (pow_pos n)).0 (omega arith)), div-eq_of_lt)

-- a number is below its own power of two
below_power : (n : ℕ) → n < 2 ^ n
below_power zero = lit< tt
below_power (suc n) = let half = below_power n in rw (pow-suc 2 n) (omega arith)

-- a set whose members are not all below n has one past it
pub some_past : (n s : ℕ) → (((i : ℕ) → has s i ≡ true → i < n) → ⊥) → (i : ℕ) × (has s i ≡ true) × (n ≤ i)
some_past n s not_all =
    ⊎_elim
    (λ (t : any_below s past ≡ true).
    let (i, l, p) = any_at s past t in
    let both = (and-eq-true_iff (has s i) (leb n i)).0 p in (i, both.0, leb-true n i both.1))
    (λ (f : any_below s past ≡ false).
    absurd (not_all (λ i m.
    by_cases (dec_lt i n) (λ l. l)
    (λ (g : i < n → ⊥).
    absurd (true≢false
    (sym ((and-eq-true_iff (has s i) (leb n i)).1 (m, le-leb n i (omega arith)))
    ∙ any_none_at s past f i (has_below s s i (below_power s) m)))))))
    (passes_or_fails (any_below s past))
  where
    past : ℕ → Bool
    past i = has s i && leb n i

-- the members of a set to which a power is added that it does not hold
pub has_add : (s k i : ℕ) → has s k ≡ false → has (s + 2 ^ k) i ≡ (has s i || eqb i k)
has_add s k i h = rw (← or_disjoint s (2 ^ k) (same_set (bit_and s (2 ^ k)) 0 none)) (has_with s k i)
  where
    none : (n : ℕ) → has (bit_and s (2 ^ k)) n ≡ has 0 n
    none n =
        has_and s (2 ^ k) n ∙ ap (λ (b : Bool). has s n && b) (has_pow k n)
        ∙ by_cases (ℕ_discrete n k)
        (λ (e : n ≡ k). rw (e, h, has_empty k))
        (λ (ne : n ≢ k). rw (ne_eqb n k ne, has_empty n) (and-false (has s n)))
