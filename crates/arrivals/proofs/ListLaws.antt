-- Laws of parts of lists, and of lists that begin with others.
-- Assumes nothing.
use mathlib.Core.Path.{◌≡◌, refl, sym, ap, ◌∙◌}
use mathlib.Core.Bool.{true}
use mathlib.Core.List.{List, [], ◌∷◌, ◌++◌, append_assoc}
use Prim.Native.Nat.{ℕ, zero, suc, ◌+◌, ◌≤◌, ◌<◌}
use native.Mathlib.Omega.{arith}
use lib.Dec.{eqb}
use lib.ListN.{length, get_or, take, drop, length-take}
use lib.Seq.{length-take-le, take-suc, get_or-take, take-take, ext_get_or}
use borrow.Author.Tests.{eqb-true, eq-eqb}
use Rattle.laws.proofs.Bounded.{all_at, all_of}
use Rattle.arrivals.specs.Arrivals.{begins}

-- ---- parts of a list

module _ {ℓ} {A : Type ℓ} where
  -- a list that is the first k of another is no longer
  pub take_long : (k : ℕ) (l m : List A) → length m ≡ k → take k l ≡ m → k ≤ length l
  take_long k l m long e = omega (arith, sym (length-take k l) ∙ ap length e)

  -- a number among the first k of a list
  pub take_get_d : (k : ℕ) (l m : List A) (i : ℕ) (d : A) → take k l ≡ m → i < k → get_or l i d ≡ get_or m i d
  take_get_d k l m i d e h = sym (get_or-take k l i d h) ∙ ap (λ (r : List A). get_or r i d) e

  -- a part of the first k
  pub take_drop_take : (w s k : ℕ) (l : List A) → s + w ≤ k → take w (drop s (take k l)) ≡ take w (drop s l)
  take_drop_take w zero k l h = take-take w k l (omega arith)
  take_drop_take w (suc s) zero l h = absurd (omega arith)
  take_drop_take w (suc s) (suc k) [] h = refl
  take_drop_take w (suc s) (suc k) (x ∷ l) h = take_drop_take w s k l (omega arith)

  -- two more of a list
  pub take_two : (l : List A) (j : ℕ) (d : A) → suc j < length l → take (suc (suc j)) l ≡ take j l ++ (get_or l j d ∷ get_or l (suc j) d ∷ [])
  take_two l j d h =
      take-suc l (suc j) d h ∙ ap (λ (r : List A). r ++ (get_or l (suc j) d ∷ [])) (take-suc l j d (omega arith))
      ∙ append_assoc (take j l) (get_or l j d ∷ []) (get_or l (suc j) d ∷ [])

-- ---- the first numbers

-- the test says that the first k are the same
pub begins_take : (k : ℕ) (l m : List ℕ) → begins k l m ≡ true → k ≤ length l → length m ≡ k → take k l ≡ m
unfolding begins
begins_take k l m h long e =
    ext_get_or 0 (take k l) m (length-take-le k l long ∙ sym e)
    (λ i b.
    let in_k : i < k = rw (length-take-le k l long) at b in
    get_or-take k l i 0 in_k ∙ eqb-true (get_or l i 0) (get_or m i 0) (all_at k (λ j. eqb (get_or l j 0) (get_or m j 0)) h i in_k))

-- where they are the test passes
pub begins_of : (k : ℕ) (l m : List ℕ) → take k l ≡ m → begins k l m ≡ true
unfolding begins
begins_of k l m e =
    all_of k (λ i. eqb (get_or l i 0) (get_or m i 0)) (λ i h. eq-eqb (get_or l i 0) (get_or m i 0) (take_get_d k l m i 0 e h))
