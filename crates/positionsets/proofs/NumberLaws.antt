-- Laws of the loops over positions and states.
-- Assumes nothing.
use mathlib.Core.Path.{◌≡◌, refl, sym, ap, ◌∙◌}
use mathlib.Core.Logic.{◌≢◌, ⊎_elim}
use mathlib.Core.Bool.{Bool, true, false}
use mathlib.Core.List.{List}
use Prim.Native.Nat.{ℕ, zero, suc, ◌+◌, ◌-◌, ◌*◌, ◌%◌, ◌^◌, ◌≤◌, ◌<◌}
use native.Mathlib.Nat.{eq-or-lt_of_le, le_of_suc-le-suc}
use native.Mathlib.Numerals.{add-one}
use native.Mathlib.Omega.{arith}
use lib.Dec.{eqb}
use lib.Bits.{bit_or, bit_and, or_zero_r}
use lib.Count.{count_trailing_zeros}
use lib.ListN.{length, get_or}
use Rattle.laws.specs.Bits.{has}
use Rattle.laws.proofs.Bits.{one_shl}
use Rattle.laws.proofs.Walk.{Rest, rest_start, rest_from, rest_low, rest_lt, rest_none, rest_next, rest_done}
use Rattle.expression.specs.Masks.{when, union_over, places_of}

-- ---- the union over the members

-- positions that are no members add nothing
union_skip
    : (t u : ℕ) (f : ℕ → ℕ) (s : ℕ) → t ≤ u → ((i : ℕ) → t ≤ i → i < u → has s i ≡ false) → union_over u f s ≡ union_over t f s
unfolding union_over
union_skip t zero f s l none = let none_yet : 0 ≡ t = omega (arith, l) in ap (λ (n : ℕ). union_over n f s) none_yet
union_skip t (suc u) f s l none =
    ⊎_elim
    (λ (e : t ≡ suc u). ap (λ (n : ℕ). union_over n f s) (sym e))
    (λ (h : t < suc u).
    let out : has s u ≡ false = none u (le_of_suc-le-suc h) (omega arith) in
    ap (λ (b : Bool). bit_or (union_over u f s) (when b (f u))) out ∙ or_zero_r (union_over u f s)
    ∙ union_skip t u f s (le_of_suc-le-suc h) (λ i m k. none i m (omega (arith, k))))
    (eq-or-lt_of_le l)

-- a member adds its own set
union_with : (q : ℕ) (f : ℕ → ℕ) (s : ℕ) → has s q ≡ true → union_over (q + 1) f s ≡ bit_or (union_over q f s) (f q)
unfolding union_over
union_with q f s h = rw (add-one q) (ap (λ (b : Bool). bit_or (union_over q f s) (when b (f q))) h)

-- out is the union over the members below the number passed
pub record Joined (f : List ℕ) (s out rest : ℕ) : Type 0 where
  pub passed : ℕ
  pub in_width : passed ≤ 64
  pub left : Rest 64 s rest passed
  pub exact : out ≡ union_over passed (λ p. get_or f p 0) s

pub joined_none : (f : List ℕ) (s : ℕ) → s < 2 ^ 64 → Joined f s 0 s
unfolding union_over
joined_none f s h = record { passed = 0; in_width = omega arith; left = rest_start 64 s h; exact = refl }

pub joined_more
    : (f : List ℕ) (s out rest : ℕ) → 0 < rest → Joined f s out rest
    → Joined f s (bit_or out (get_or f (count_trailing_zeros 64 rest) 0)) (bit_and rest (rest - 1))
joined_more f s out rest p h =
    record {
      passed = q + 1;
      in_width = omega (arith, rest_lt h.left p);
      left = rest_next h.left p;
      exact =
          ap (λ (n : ℕ). bit_or n (get_or f q 0))
          (h.exact ∙ sym (union_skip h.passed q (λ i. get_or f i 0) s (rest_from h.left p) (rest_none h.left)))
          ∙ sym (union_with q (λ i. get_or f i 0) s (rest_low h.left p));
    }
  where
    q : ℕ
    q = count_trailing_zeros 64 rest

pub joined_all : (f : List ℕ) (s out rest : ℕ) → length f ≡ 64 → rest ≡ 0 → Joined f s out rest → out ≡ union_over (length f) (λ p. get_or f p 0) s
joined_all f s out rest long e h =
    h.exact
    ∙ sym (union_skip h.passed (length f) (λ p. get_or f p 0) s (omega (arith, long, h.in_width)) (λ i l k. rest_done h.left e i l))

-- ---- the positions of letters

-- the positions of a letter among none, and among one more
pub places_none : (t : List ℕ) (s : ℕ) → 0 ≡ places_of t 0 s
unfolding places_of
places_none t s = refl

pub places_more
    : (t : List ℕ) (s q out more : ℕ) → q < 64 → out ≡ places_of t q s → more ≡ when (eqb (get_or t q 0) (97 + s)) ((1 * 2 ^ q) % 2 ^ 64)
    → bit_or out more ≡ places_of t (q + 1) s
unfolding places_of
places_more t s q out more l h e =
    rw (add-one q) (cc (h, e ∙ ap (λ (n : ℕ). when (eqb (get_or t q 0) (97 + s)) n) (one_shl 64 q l)))

-- no state below i has the set
pub record Seeking (sets : List ℕ) (count x i : ℕ) : Type 0 where
  pub low : 1 ≤ i
  pub high : i ≤ count
  pub none : (p : ℕ) → 1 ≤ p → p < i → get_or sets p 0 ≢ x

-- ---- the positions of all letters

-- those of the symbols before s are filled in
pub record Filled (t : List ℕ) (a : ℕ) (places₀ places : List ℕ) (s : ℕ) : Type 0 where
  pub within : s ≤ a
  pub long : length places ≡ length places₀
  pub are : (k : ℕ) → k < s → get_or places k 0 ≡ places_of t (length t) k
