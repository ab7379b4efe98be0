-- Laws of a number's bytes that are copied over as many.
-- Assumes nothing.
use mathlib.Core.Path.{◌≡◌, refl, sym, ap}
use mathlib.Core.List.{List, append_assoc}
use Prim.Native.Nat.{ℕ, zero, suc, ◌+◌, ◌/◌, ◌≤◌}
use native.Mathlib.Nat.{div-div-eq-div-mul}
use native.Mathlib.Omega.{arith}
use lib.ListN.{length}
use borrow.Rule.Slice.PartMut.{put_mid}
use Rattle.std.specs.Int.{w16, w64, to_le_bytes}
use Rattle.std.proofs.lemmas.List.{drop-drop}
use Rattle.std.proofs.lemmas.List.Edits.{sets-eq}
use Rattle.laws.specs.Bytes.{bytes_of, put_number}

-- the bytes of a number of 16 bits
pub two_bytes : (v : ℕ) → to_le_bytes w16 v ≡ bytes_of 2 v
unfolding bytes_of
two_bytes v = refl

-- and of 64
pub eight_bytes : (v : ℕ) → to_le_bytes w64 v ≡ bytes_of 8 v
unfolding bytes_of
eight_bytes v = simp div-div-eq-div-mul

-- there are n
length_bytes : (n v : ℕ) → length (bytes_of n v) ≡ n
unfolding bytes_of
length_bytes zero v = refl
length_bytes (suc n) v = ap suc (length_bytes n (v / 256))

-- in the place of as many they are the number, written
pub put_copied : (n k : ℕ) (l part : List ℕ) (i v : ℕ) → part ≡ bytes_of n v → k ≡ n → i + n ≤ length l → put_mid i k l part ≡ put_number n l i v
unfolding put_number
put_copied n k l part i v e count fits =
    let long = length_bytes n v in
    rw (e, count, drop-drop n i l) (sym (rw (long, append_assoc) at (sets-eq (bytes_of n v) l i (omega arith))))
