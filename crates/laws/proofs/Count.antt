-- The count of a set's members.
-- Assumes nothing.
use Prim.Native.Nat.{ℕ, zero, suc, ◌/◌, ◌^◌, ◌<◌}
use mathlib.Core.Path.{◌≡◌, sym, ap, ◌∙◌}
use native.Mathlib.Omega.{arith}
use lib.Arith.{lt-one}
use lib.Count.{ones, ones_step}
use Rattle.laws.specs.Bounded.{sum_below}
use Rattle.laws.specs.Bits.{bit}
use Rattle.laws.proofs.Bounded.{sum_front, sum_cong}
use Rattle.laws.proofs.Bits.{bit_zero, bit_suc, half_lt}

-- `count_ones` is the sum of the bits
pub ones_count : (w s : ℕ) → s < 2 ^ w → ones s ≡ sum_below w (bit s)
unfolding sum_below ones
ones_count zero s h = ap ones (lt-one h)
ones_count (suc w) s h =
    let rest : ones (s / 2) ≡ sum_below w (λ (i : ℕ). bit s (suc i)) =
    ones_count w (s / 2) (half_lt w s h) ∙ sum_cong w (bit (s / 2)) (λ (i : ℕ). bit s (suc i)) (λ i l. sym (bit_suc s i)) in
    omega (arith, ones_step s, sum_front w (bit s), bit_zero s)
