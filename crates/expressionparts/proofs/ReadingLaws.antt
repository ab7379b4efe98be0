-- Laws of positions that follow one another.
-- Assumes nothing.
use mathlib.Core.Path.{◌≡◌, refl, sym, ap, ◌∙◌}
use mathlib.Core.Logic.{by_cases, ◌≢◌}
use mathlib.Core.Bool.{Bool, false}
use mathlib.Core.List.{List}
use Prim.Native.Nat.{ℕ, ◌+◌, ◌-◌, ◌^◌, ◌≤◌, ◌<◌}
use native.Mathlib.Nat.{not-suc-le-zero}
use native.Mathlib.Decide.{dec_lt, ℕ_discrete}
use native.Mathlib.Omega.{arith}
use lib.Bits.{bit_or, bit_and, or_zero_r}
use lib.Count.{count_trailing_zeros}
use lib.ListN.{length, get_or, set, length-set}
use lib.Seq.{get_or-set_same, get_or-set_other}
use Rattle.laws.specs.Bits.{has}
use Rattle.laws.proofs.Walk.{Rest, rest_start, rest_from, rest_low, rest_lt, rest_none, rest_next, rest_done}
use Rattle.expression.specs.Masks.{when}
use Rattle.expressionparts.specs.Reading.{Linked}

-- ---- linking

-- a position that is not in the set is as it was
pub unlinked : (n firsts : ℕ) (b : Bool) → b ≡ false → bit_or n (when b firsts) ≡ n
unlinked n firsts b e = ap (λ (x : Bool). bit_or n (when x firsts)) e ∙ or_zero_r n

-- `rest` is the members of the set from some number on; the positions before it are linked, the others are as they were
pub record Linking (f₀ f : List ℕ) (lasts firsts rest : ℕ) : Type 0 where
  pub passed : ℕ
  pub left : Rest 64 lasts rest passed
  pub long : length f ≡ length f₀
  pub done : (k : ℕ) → k < passed → get_or f k 0 ≡ bit_or (get_or f₀ k 0) (when (has lasts k) firsts)
  pub others : (k : ℕ) → passed ≤ k → get_or f k 0 ≡ get_or f₀ k 0

-- at the start, at each member, and after the last
pub linking_none : (f : List ℕ) (lasts firsts : ℕ) → lasts < 2 ^ 64 → Linking f f lasts firsts lasts
linking_none f l r h =
    record { passed = 0; left = rest_start 64 l h; long = refl; done = λ k h. absurd (not-suc-le-zero h); others = λ k h. refl }

pub linking_more
    : (f₀ f : List ℕ) (lasts firsts rest : ℕ) → Linking f₀ f lasts firsts rest → 0 < rest → length f₀ ≡ 64
    → Linking f₀ (set f (count_trailing_zeros 64 rest) (bit_or (get_or f (count_trailing_zeros 64 rest) 0) firsts)) lasts firsts (bit_and rest (rest - 1))
linking_more f₀ f lasts firsts rest h p whole =
    record {
      passed = q + 1;
      left = rest_next h.left p;
      long = length-set f q value ∙ h.long;
      done = done;
      others = λ k g. get_or-set_other f q k value 0 (λ n. omega (arith, n, g)) ∙ h.others k (omega (arith, g, from));
    }
  where
    q : ℕ
    q = count_trailing_zeros 64 rest

    value : ℕ
    value = bit_or (get_or f q 0) firsts

    from : h.passed ≤ q
    from = rest_from h.left p

    within : q < length f
    within = omega (arith, rest_lt h.left p, h.long, whole)

    here : value ≡ bit_or (get_or f₀ q 0) (when (has lasts q) firsts)
    here = cc (h.others q from, rest_low h.left p)

    done : (k : ℕ) → k < q + 1 → get_or (set f q value) k 0 ≡ bit_or (get_or f₀ k 0) (when (has lasts k) firsts)
    done k g =
        by_cases (ℕ_discrete k q)
        (λ (n : k ≡ q). rw n (get_or-set_same f q value 0 within ∙ here))
        (λ (n : k ≢ q).
        get_or-set_other f q k value 0 n
        ∙ by_cases (dec_lt k h.passed)
        (λ l. h.done k l)
        (λ l.
        h.others k (omega arith)
        ∙ sym (unlinked (get_or f₀ k 0) firsts (has lasts k) (rest_none h.left k (omega arith) (omega (arith, n))))))

pub linking_all : (f₀ f : List ℕ) (lasts firsts rest : ℕ) → Linking f₀ f lasts firsts rest → rest ≡ 0 → Linked f₀ f lasts firsts
linking_all f₀ f lasts firsts rest h e =
    record {
      long = h.long;
      cells = λ k g.
          by_cases (dec_lt k h.passed)
          (λ l. h.done k l)
          (λ l. h.others k (omega arith) ∙ sym (unlinked (get_or f₀ k 0) firsts (has lasts k) (rest_done h.left e k (omega arith))));
    }
