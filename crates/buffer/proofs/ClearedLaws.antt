-- Laws of the cleared buffer: bytes made zero from the front on, and the rest as it was.
-- Assumes nothing.
use mathlib.Core.Path.{◌≡◌, refl, sym, ap, ◌∙◌}
use mathlib.Core.Logic.{inr}
use mathlib.Core.List.{List, [], ◌∷◌, ◌++◌}
use Prim.Native.Nat.{ℕ, zero, suc, ◌+◌, ◌-◌, ◌≤◌, ◌<◌}
use native.Mathlib.Nat.{le-add_right, not-suc-le-zero, le_of_suc-le-suc}
use native.Mathlib.Omega.{arith}
use lib.ListN.{length, get_or, drop, replicate, length-drop}
use lib.Seq.{ext_get_or, get_or-drop}
use Rattle.buffer.specs.Buffer.{work_size, filled, cleared}
use Rattle.buffer.specs.Layout.{Lent}
use Rattle.buffer.specs.Kept.{Zeroed}

-- clearing leaves nothing of what stood in the cleared part
pub filled_same
    : (n : ℕ) (l m : List ℕ) → length m ≡ length l → ((k : ℕ) → n ≤ k → get_or m k 0 ≡ get_or l k 0) → filled n m ≡ filled n l
unfolding filled
filled_same n l m e h =
    ap (λ (r : List ℕ). replicate n 0 ++ r)
    (ext_get_or 0 (drop n m) (drop n l) (length-drop n m ∙ ap (λ (k : ℕ). k - n) e ∙ sym (length-drop n l))
    (λ i _. get_or-drop n m i 0 ∙ h (n + i) (le-add_right n i) ∙ sym (get_or-drop n l i 0)))

-- so a buffer that differs in its first part alone is cleared to the same
pub cleared_same
    : (l m : List ℕ) → length m ≡ length l → ((k : ℕ) → work_size ≤ k → get_or m k 0 ≡ get_or l k 0) → cleared m ≡ cleared l
unfolding cleared
cleared_same l m e h = filled_same work_size l m e h

-- a list that begins with n zeros
filled_zeros : (n : ℕ) (m : List ℕ) → n ≤ length m → ((k : ℕ) → k < n → get_or m k 0 ≡ 0) → m ≡ filled n m
unfolding filled
filled_zeros zero m h z = refl
filled_zeros (suc n) [] h z = absurd (not-suc-le-zero h)
filled_zeros (suc n) (x ∷ m) h z =
    ap (λ (y : ℕ). y ∷ m) (z 0 (omega arith))
    ∙ ap (λ (t : List ℕ). 0 ∷ t) (filled_zeros n m (le_of_suc-le-suc h) (λ k g. z (suc k) (omega arith)))

-- the whole work buffer made zero, in the shape of the code
pub zeroed_cleared : (l m : List ℕ) → Lent l → Zeroed l m 0 work_size → m ≡ cleared l
unfolding cleared
zeroed_cleared l m h z =
    filled_zeros work_size m (omega (arith, z.kept.long)) (λ k g. z.zeros k (omega arith) g)
    ∙ filled_same work_size l m z.kept.long (λ k g. z.kept.outside k (inr g))
