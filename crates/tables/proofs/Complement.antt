-- The complement of a set within a width.
-- Assumes nothing.
use mathlib.Core.Path.{◌≡◌, refl, sym, ap, ◌∙◌}
use mathlib.Core.Bool.{not}
use Prim.Native.Nat.{ℕ, zero, suc, ◌-◌, ◌*◌, ◌/◌, ◌%◌, ◌^◌, ◌<◌}
use native.Mathlib.Nat.{le_of_suc-le-suc, not-suc-le-zero, pow-suc}
use native.Mathlib.Omega.{arith}
use lib.Dec.{eqb}
use Rattle.laws.specs.Bits.{bit, has}
use Rattle.laws.proofs.Bits.{bit_lt, bit_zero, bit_suc, half_lt}

-- the lowest digit of the complement
low : (p s : ℕ) → s < p * 2 → (p * 2 - 1 - s) % 2 ≡ 1 - s % 2
low p s h = omega arith

-- its half
half : (p s : ℕ) → s < p * 2 → (p * 2 - 1 - s) / 2 ≡ p - 1 - s / 2
half p s h = omega arith

-- a bit of the complement
bit_complement : (w s i : ℕ) → s < 2 ^ w → i < w → bit (2 ^ w - 1 - s) i ≡ 1 - bit s i
bit_complement zero s i h l = absurd (not-suc-le-zero l)
bit_complement (suc w) s zero h l =
    bit_zero (2 ^ suc w - 1 - s) ∙ rw (pow-suc 2 w) (low (2 ^ w) s (rw (pow-suc 2 w) at h)) ∙ ap (λ (n : ℕ). 1 - n) (sym (bit_zero s))
bit_complement (suc w) s (suc i) h l =
    bit_suc (2 ^ suc w - 1 - s) i ∙ ap (λ (n : ℕ). bit n i) (rw (pow-suc 2 w) (half (2 ^ w) s (rw (pow-suc 2 w) at h)))
    ∙ bit_complement w (s / 2) i (half_lt w s h) (le_of_suc-le-suc l) ∙ ap (λ (n : ℕ). 1 - n) (sym (bit_suc s i))

-- 1 less a bit is set where the bit is not
contrary : (n : ℕ) → n < 2 → eqb (1 - n) 1 ≡ not (eqb n 1)
contrary zero l = refl
contrary (suc zero) l = refl
contrary (suc (suc n)) l = absurd (not-suc-le-zero (le_of_suc-le-suc (le_of_suc-le-suc l)))

-- the members of the complement are those that the set does not have
pub has_complement : (w s i : ℕ) → s < 2 ^ w → i < w → has (2 ^ w - 1 - s) i ≡ not (has s i)
unfolding has
has_complement w s i h l = ap (λ (n : ℕ). eqb n 1) (bit_complement w s i h l) ∙ contrary (bit s i) (bit_lt s i)
