-- Laws of rows of pairs on values.
-- Assumes nothing.
use mathlib.Core.Path.{◌≡◌, sym, ap, ◌∙◌}
use mathlib.Core.Logic.{◌≢◌, ◌↔◌}
use mathlib.Core.Bool.{Bool, true, false, not, ◌&&◌, true≢false, and-eq-true_iff}
use mathlib.Core.List.{List}
use Prim.Native.Nat.{ℕ, zero, suc, ◌^◌, ◌<◌}
use native.Mathlib.Nat.{pow-suc}
use native.Mathlib.Omega.{arith}
use lib.Bits.{bit_and}
use lib.Count.{count_trailing_zeros}
use lib.Dec.{ltb}
use borrow.Author.Tests.{lt-ltb, ne_eqb, eqb-false, not-true}
use Rattle.laws.specs.Bits.{has}
use Rattle.laws.proofs.Tests.{fails_of}
use Rattle.laws.proofs.Bits.{has_empty, has_and}
use Rattle.laws.proofs.Walk.{trailing_member}
use Rattle.laws.proofs.Image.{has_image}
use Rattle.automaton.specs.Automaton.{cell}
use Rattle.job.specs.Search.{unlike}
use Rattle.tables.specs.Rows.{meets, unlike_states, preimage_of, image_of}
use Rattle.tables.proofs.SetLaws.{has_set_test}

-- a number is below its power
lt_pow : (n : ℕ) → n < 2 ^ n
lt_pow zero = omega arith
lt_pow (suc n) = omega (arith, lt_pow n, pow-suc 2 n)

-- a set that is not empty has a member
pub any_member : (s : ℕ) → s ≢ 0 → (q : ℕ) × (has s q ≡ true)
any_member s ne = (count_trailing_zeros s s, trailing_member s s (omega arith) (lt_pow s))

-- the set 0 has none
pub has_nothing : {s : ℕ} (q : ℕ) → s ≡ 0 → has s q ≡ true → ⊥
has_nothing {s} q e h = true≢false (sym h ∙ ap (λ (x : ℕ). has x q) e ∙ has_empty q)

-- two sets meet where they have a common member
pub meets_says : (s t : ℕ) → (meets s t ≡ true) ↔ ((q : ℕ) × (has s q ≡ true) × (has t q ≡ true))
meets_says s t = (
  λ h.
      let r = any_member (bit_and s t) (eqb-false (bit_and s t) 0 (not-true _ h)) in
      let both = (and-eq-true_iff (has s r.0) (has t r.0)).0 (sym (has_and s t r.0) ∙ r.1) in
      (r.0, both.0, both.1),
  λ r.
      ap not (ne_eqb (bit_and s t) 0 (λ e.
      true≢false (sym ((and-eq-true_iff (has s r.0) (has t r.0)).1 (r.1, r.2))
      ∙ sym (has_and s t r.0) ∙ ap (λ (n : ℕ). has n r.0) e ∙ has_empty r.0))),
)

-- sets that do not meet have none
pub meets_none : (s t q : ℕ) → meets s t ≡ false → has s q ≡ true → has t q ≡ false
meets_none s t q n h = fails_of (has t q) (λ m. true≢false (sym ((meets_says s t).1 (q, h, m)) ∙ n))

-- the members of the states unlike p
pub has_unlike : (finals p q : ℕ) → q < 16 → has (unlike_states finals p) q ≡ unlike (has finals p) (has finals q)
unfolding unlike_states
has_unlike finals p q h =
    has_set_test 16 (λ (i : ℕ). unlike (has finals p) (has finals i)) q
    ∙ ap (λ (b : Bool). b && unlike (has finals p) (has finals q)) (lt-ltb q 16 h)

-- the members of a preimage
pub has_preimage
    : (table : List (List ℕ)) (states a s q : ℕ) → has (preimage_of table states a s) q ≡ (ltb q states && has s (cell table q a))
unfolding preimage_of
has_preimage table states a s q = has_set_test states (λ (i : ℕ). has s (cell table i a)) q

-- the members of an image
pub has_image_of
    : (table : List (List ℕ)) (a s k : ℕ)
    → (has (image_of table a s) k ≡ true) ↔ ((q : ℕ) × (q < 16) × (has s q ≡ true) × (cell table q a ≡ k))
unfolding image_of
has_image_of table a s k = has_image 16 (λ (q : ℕ). cell table q a) s k
