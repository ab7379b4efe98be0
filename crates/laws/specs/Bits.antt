-- A set of numbers as one number: bit i stands for i.
-- Assumes nothing.
use Rattle.std.specs.Prelude.{ℕ, zero, suc, ◌/◌, ◌%◌, ◌^◌, Bool, cond, eqb}
use Rattle.std.specs.Int.Bits.{bit_or}

-- bit i of a number, 0 or 1
abbrev pub bit : ℕ → ℕ → ℕ
bit s i = s / 2 ^ i % 2

-- i is a member of the set
unfoldable pub has : ℕ → ℕ → Bool
has s i = eqb (bit s i) 1

-- the set with i
abbrev pub with : ℕ → ℕ → ℕ
with s i = bit_or s (2 ^ i)

-- the image of the members below n under a map
unfoldable pub image : ℕ → (ℕ → ℕ) → ℕ → ℕ
image zero f s = 0
image (suc n) f s = cond (has s n) (with (image n f s) (f n)) (image n f s)
