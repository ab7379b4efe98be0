-- `loads::read64` meets its contract: the bytes are those of `number_at`, one after the other.
-- Assumes nothing.
use Prim.Native.Nat.{ℕ, ◌+◌, ◌<◌}
use mathlib.Core.Path.{◌≡◌, ◌∙◌}
use mathlib.Core.List.{List}
use native.Mathlib.Nat.{add-zero}
use native.Mathlib.Numerals.{towards_numerals}
use native.Mathlib.Omega.{arith}
use lib.ListN.{get_or, take, drop}
use Rattle.std.proofs.lemmas.List.{get_or-take, get_or-drop}
use Rattle.laws.specs.Bytes.{number_at}
use Rattle.loads.proofs.read64.Goals as goal

-- one of the bytes that were copied
byte : (n i : ℕ) (l : List ℕ) {bytes : List ℕ} → bytes ≡ take n (drop i l) → (k : ℕ) → k < n → get_or bytes k 0 ≡ get_or l (i + k) 0
byte n i l e k h = rw e (get_or-take n (drop i l) k 0 h ∙ get_or-drop i l k 0)

pub returns : goal.returns
unfolding number_at
returns c =
    let copied = byte _ c.args.at c.args.s.now c.copy_from_slice.ensures.after in
    simp towards_numerals
    (omega (
      arith,
      rw add-zero at (copied 0 (omega arith)),
      copied 1 (omega arith),
      copied 2 (omega arith),
      copied 3 (omega arith),
      copied 4 (omega arith),
      copied 5 (omega arith),
      copied 6 (omega arith),
      copied 7 (omega arith),
    ))
