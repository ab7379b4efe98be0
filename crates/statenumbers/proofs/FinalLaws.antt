-- Laws of the loop over the states that finds the final ones.
-- Assumes nothing.
use mathlib.Core.Path.{◌≡◌, refl, sym, ap, ◌∙◌}
use mathlib.Core.Logic.{◌≢◌, ◌↔◌, by_cases}
use mathlib.Core.Bool.{Bool, true, false, not, ◌||◌, true≢false, or-false}
use mathlib.Core.List.{List}
use Prim.Native.Nat.{ℕ, ◌+◌, ◌*◌, ◌%◌, ◌^◌, ◌≤◌, ◌<◌}
use native.Mathlib.Decide.{ℕ_discrete}
use native.Mathlib.Omega.{arith}
use lib.Dec.{eqb}
use lib.Bits.{bit_or, bit_and}
use lib.ListN.{get_or}
use borrow.Author.Tests.{eq-eqb, ne_eqb, eqb-false, not-true}
use Rattle.laws.specs.Bits.{has}
use Rattle.laws.proofs.Bits.{one_shl, has_or, has_pow, has_empty}
use Rattle.laws.proofs.Tests.{fails_of}
use Rattle.expression.specs.Masks.{when}
use Rattle.expressionrule.specs.Numbering.{FinalsOf}

-- the states before q have been looked at
pub record Looked (lasts : ℕ) (sets : List ℕ) (count q out : ℕ) : Type 0 where
  pub from : 1 ≤ q
  pub within : 1 < q → q ≤ count
  pub finals : FinalsOf lasts sets q out

pub looked_none : (lasts : ℕ) (sets : List ℕ) (count : ℕ) → Looked lasts sets count 1 0
looked_none lasts sets count =
    record {
      from = omega arith;
      within = λ l. absurd (omega (arith, l));
      finals =
          record {
            ends = λ q l h. absurd (omega (arith, l, h));
            start = has_empty 0;
            below = λ q h. absurd (true≢false (sym h ∙ has_empty q));
          };
    }

-- the set of q alone, or none
when_here : (b : Bool) (q : ℕ) → has (when b (2 ^ q)) q ≡ b
when_here true q = has_pow q q ∙ eq-eqb q q refl
when_here false q = has_empty q

when_other : (b : Bool) (q p : ℕ) → p ≢ q → has (when b (2 ^ q)) p ≡ false
when_other true q p n = has_pow q p ∙ ne_eqb p q n
when_other false q p n = has_empty p

pub looked_more
    : (lasts : ℕ) (sets : List ℕ) (count q out more : ℕ) → q < count → q < 64
    → more ≡ when (not (eqb (bit_and (get_or sets q 0) lasts) 0)) ((1 * 2 ^ q) % 2 ^ 64) → Looked lasts sets count q out
    → Looked lasts sets count (q + 1) (bit_or out more)
looked_more lasts sets count q out more l low e h =
    record {
      from = omega arith;
      within = λ g. omega (arith, l);
      finals = record { ends = ends; start = other 0 (λ n. omega (arith, n, h.from)) ∙ h.finals.start; below = below };
    }
  where
    meets : Bool
    meets = not (eqb (bit_and (get_or sets q 0) lasts) 0)

    same : more ≡ when meets (2 ^ q)
    same = e ∙ ap (λ (n : ℕ). when meets n) (one_shl 64 q low)

    other : (p : ℕ) → p ≢ q → has (bit_or out more) p ≡ has out p
    other p n =
        has_or out more p
        ∙ ap (λ (b : Bool). has out p || b) (ap (λ (x : ℕ). has x p) same ∙ when_other meets q p n) ∙ or-false (has out p)

    here : has (bit_or out more) q ≡ meets
    here =
        has_or out more q
        ∙ ap (λ (b : Bool). b || has more q) (fails_of (has out q) (λ g. omega (arith, h.finals.below q g)))
        ∙ ap (λ (x : ℕ). has x q) same ∙ when_here meets q

    meets_says : (meets ≡ true) ↔ (bit_and (get_or sets q 0) lasts ≢ 0)
    meets_says = (λ y. eqb-false (bit_and (get_or sets q 0) lasts) 0 (not-true _ y), λ n. ap not (ne_eqb (bit_and (get_or sets q 0) lasts) 0 n))

    ends : (p : ℕ) → 1 ≤ p → p < q + 1 → (has (bit_or out more) p ≡ true) ↔ (bit_and (get_or sets p 0) lasts ≢ 0)
    ends p a b =
        by_cases (ℕ_discrete p q)
        (λ (y : p ≡ q). rw y (λ g. meets_says.0 (sym here ∙ g), λ n. here ∙ meets_says.1 n))
        (λ (y : p ≢ q).
        let old = h.finals.ends p a (omega (arith, b, y)) in
        (λ g. old.0 (sym (other p y) ∙ g), λ n. other p y ∙ old.1 n))

    below : (p : ℕ) → has (bit_or out more) p ≡ true → p < q + 1
    below p g =
        by_cases (ℕ_discrete p q)
        (λ (y : p ≡ q). omega (arith, y))
        (λ (y : p ≢ q). omega (arith, h.finals.below p (sym (other p y) ∙ g)))
