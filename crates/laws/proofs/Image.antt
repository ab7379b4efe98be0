-- Laws of the image of a set under a map.
-- Assumes nothing.
use Prim.Native.Nat.{ℕ, zero, suc, ◌+◌, ◌^◌, ◌≤◌, ◌<◌}
use mathlib.Core.Path.{◌≡◌, refl, sym, ◌∙◌}
use mathlib.Core.Logic.{◌↔◌, ⊎_elim}
use mathlib.Core.Bool.{true, false, true≢false}
use native.Mathlib.Nat.{le_refl, le_step, le_of_suc-le-suc, not-suc-le-zero, eq-or-lt_of_le}
use native.Mathlib.Numerals.{add-one}
use native.Mathlib.Decide.{le_ind}
use lib.Dec.{eqb}
use borrow.Author.Tests.{eq-eqb, eqb-true}
use Rattle.laws.specs.Bits.{has, with, image}
use Rattle.laws.proofs.Tests.{passes_or_fails, test_ext, or_passes, or_left, or_right}
use Rattle.laws.proofs.Bits.{has_empty, has_with, same_set, members_below}

-- the image of nothing
pub image_zero : (f : ℕ → ℕ) (s : ℕ) → image 0 f s ≡ 0
unfolding image
image_zero f s = refl

-- a member n adds its image
pub image_with : (n : ℕ) (f : ℕ → ℕ) (s : ℕ) → has s n ≡ true → image (n + 1) f s ≡ with (image n f s) (f n)
unfolding image
image_with n f s h = rw (add-one, h)

-- a number n that is no member adds nothing
pub image_without : (n : ℕ) (f : ℕ → ℕ) (s : ℕ) → has s n ≡ false → image (n + 1) f s ≡ image n f s
unfolding image
image_without n f s h = rw (add-one, h)

-- numbers from m up to n that are no members add nothing
pub image_skip
    : (m n : ℕ) (f : ℕ → ℕ) (s : ℕ) → m ≤ n → ((i : ℕ) → m ≤ i → i < n → has s i ≡ false) → image n f s ≡ image m f s
image_skip m n f s l none =
    le_ind (λ (k : ℕ). ((i : ℕ) → m ≤ i → i < k → has s i ≡ false) → image k f s ≡ image m f s)
    (λ h. refl)
    (λ k le rest h. (rw (← add-one) (image_without k f s (h k le (le_refl (suc k))))) ∙ rest (λ i a b. h i a (le_step b)))
    n l none

-- a member below n whose image is j
abbrev From : ℕ → (ℕ → ℕ) → ℕ → ℕ → Type 0
From n f s j = (i : ℕ) × (i < n) × (has s i ≡ true) × (f i ≡ j)

-- a larger bound has it too
from_more : (n : ℕ) (f : ℕ → ℕ) (s j : ℕ) → From n f s j → From (suc n) f s j
from_more n f s j r = (r.0, le_step r.1, r.2, r.3)

-- what is in the image comes from a member
image_from : (n : ℕ) (f : ℕ → ℕ) (s j : ℕ) → has (image n f s) j ≡ true → From n f s j
unfolding image
image_from zero f s j h = absurd (true≢false (sym h ∙ has_empty j))
image_from (suc n) f s j h =
    ⊎_elim
    (λ (p : has s n ≡ true).
    ⊎_elim
    (λ (q : has (image n f s) j ≡ true). from_more n f s j (image_from n f s j q))
    (λ (q : eqb j (f n) ≡ true). (n, le_refl (suc n), p, sym (eqb-true j (f n) q)))
    (or_passes (has (image n f s) j) (eqb j (f n)) (sym (has_with (image n f s) (f n) j) ∙ (rw p at h))))
    (λ (p : has s n ≡ false). from_more n f s j (image_from n f s j (rw p at h)))
    (passes_or_fails (has s n))

-- what comes from a member is in the image
image_of : (n : ℕ) (f : ℕ → ℕ) (s j i : ℕ) → i < n → has s i ≡ true → f i ≡ j → has (image n f s) j ≡ true
unfolding image
image_of zero f s j i l m e = absurd (not-suc-le-zero l)
image_of (suc n) f s j i l m e =
    ⊎_elim
    (λ (p : has s n ≡ true).
    rw (p, has_with (image n f s) (f n) j)
    (⊎_elim
    (λ (q : i ≡ n). or_right (has (image n f s) j) (eqb j (f n)) (eq-eqb j (f n) (rw (← q) (sym e))))
    (λ (q : i < n). or_left (has (image n f s) j) (eqb j (f n)) (image_of n f s j i q m e))
    (eq-or-lt_of_le (le_of_suc-le-suc l))))
    (λ (p : has s n ≡ false).
    rw p
    (⊎_elim
    (λ (q : i ≡ n). absurd (true≢false (sym m ∙ rw q p)))
    (λ (q : i < n). image_of n f s j i q m e)
    (eq-or-lt_of_le (le_of_suc-le-suc l))))
    (passes_or_fails (has s n))

-- j is in the image where a member below n has the image j
pub has_image
    : (n : ℕ) (f : ℕ → ℕ) (s j : ℕ) → (has (image n f s) j ≡ true) ↔ ((i : ℕ) × (i < n) × (has s i ≡ true) × (f i ≡ j))
has_image n f s j = (image_from n f s j, λ r. image_of n f s j r.0 r.1 r.2 r.3)

-- the image of members that go below w is a set of width w
pub image_lt
    : (n w : ℕ) (f : ℕ → ℕ) (s : ℕ) → ((i : ℕ) → i < n → has s i ≡ true → f i < w) → image n f s < 2 ^ w
image_lt n w f s h =
    members_below w (image n f s)
    (λ j m. let r = image_from n f s j m in rw (← r.3) (h r.0 r.1 r.2))

-- maps that agree on the members give the same image
pub image_cong
    : (n : ℕ) (f g : ℕ → ℕ) (s : ℕ) → ((i : ℕ) → i < n → has s i ≡ true → f i ≡ g i) → image n f s ≡ image n g s
image_cong n f g s h =
    same_set (image n f s) (image n g s)
    (λ j. test_ext (has (image n f s) j) (has (image n g s) j)
    (λ m. let r = image_from n f s j m in image_of n g s j r.0 r.1 r.2 (sym (h r.0 r.1 r.2) ∙ r.3))
    (λ m. let r = image_from n g s j m in image_of n f s j r.0 r.1 r.2 (h r.0 r.1 r.2 ∙ r.3)))
