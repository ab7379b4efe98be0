-- Laws of a list of numbers read as pairs.
-- Assumes nothing.
use mathlib.Core.Path.{◌≡◌, refl, sym, ap, ◌∙◌}
use mathlib.Core.List.{List, [], ◌∷◌}
use Prim.Native.Nat.{ℕ, zero, suc, ◌+◌, ◌*◌, ◌/◌, ◌≤◌, ◌<◌}
use native.Mathlib.Omega.{arith}
use lib.ListN.{length, get_or, take}
use lib.Seq.{length-take-le, get_or-take}
use Rattle.std.specs.Simd.{first_chunks}

-- a pair of a list of pairs
pair_at
    : (l : List ℕ) (k i : ℕ) (d : List ℕ) → i < k → 2 * k ≤ length l
    → get_or (first_chunks 2 k l) i d ≡ get_or l (2 * i) 0 ∷ get_or l (2 * i + 1) 0 ∷ []
pair_at l zero i d h m = absurd (omega arith)
pair_at [] (suc k) i d h m = absurd (omega arith)
pair_at (x ∷ []) (suc k) i d h m = absurd (omega arith)
pair_at (x ∷ y ∷ l) (suc k) zero d h m = refl
pair_at (x ∷ y ∷ l) (suc k) (suc i) d h m =
    let even : 2 * suc i ≡ suc (suc (2 * i)) = omega arith in
    let odd : 2 * suc i + 1 ≡ suc (suc (2 * i + 1)) = omega arith in
    pair_at l k i d (omega arith) (omega arith)
    ∙ sym (ap (λ (n : ℕ). get_or (x ∷ y ∷ l) n 0 ∷ get_or (x ∷ y ∷ l) (2 * suc i + 1) 0 ∷ []) even ∙ ap (λ (n : ℕ). get_or l (2 * i) 0 ∷ get_or (x ∷ y ∷ l) n 0 ∷ []) odd)

-- the first k of the pairs of a list that has room for them
module _ (l : List ℕ) (pairs : List (List ℕ)) (k : ℕ) (fits : 2 * k ≤ length l) where
  pub pairs_long : length pairs ≡ length l / 2 → length (take k pairs) ≡ k
  pairs_long h = length-take-le k pairs (omega arith)

  pub pair_in
      : pairs ≡ first_chunks 2 (length l / 2) l → (i : ℕ) (d : List ℕ) → i < k
      → get_or (take k pairs) i d ≡ get_or l (2 * i) 0 ∷ get_or l (2 * i + 1) 0 ∷ []
  pair_in e i d h =
      get_or-take k pairs i d h ∙ ap (λ (x : List (List ℕ)). get_or x i d) e
      ∙ pair_at l (length l / 2) i d (omega arith) (omega arith)

  pub pair_first : pairs ≡ first_chunks 2 (length l / 2) l → (i : ℕ) → i < k → get_or (get_or (take k pairs) i []) 0 0 ≡ get_or l (2 * i) 0
  pair_first e i h = ap (λ (x : List ℕ). get_or x 0 0) (pair_in e i [] h)

  pub pair_second
      : pairs ≡ first_chunks 2 (length l / 2) l → (i : ℕ) → i < k → get_or (get_or (take k pairs) i []) 1 0 ≡ get_or l (2 * i + 1) 0
  pair_second e i h = ap (λ (x : List ℕ). get_or x 1 0) (pair_in e i [] h)
