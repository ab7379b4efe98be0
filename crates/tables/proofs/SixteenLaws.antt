-- Laws of sixteen rows by value: rows without pairs, and a set joined into a row.
-- Assumes nothing.
use mathlib.Core.Path.{◌≡◌, refl, sym, ap, ◌∙◌}
use mathlib.Core.Logic.{◌⊎◌, inl, inr, ⊎_elim, by_cases}
use mathlib.Core.Bool.{true, ◌||◌}
use mathlib.Core.List.{List, [], ◌∷◌}
use Prim.Native.Nat.{ℕ, zero, suc, ◌+◌, ◌-◌, ◌≤◌, ◌<◌}
use native.Mathlib.Decide.{ℕ_discrete}
use native.Mathlib.Omega.{arith}
use lib.Bits.{bit_or, or_lt}
use lib.ListN.{length, get_or, set, length-set}
use lib.Seq.{get_or-set_same, get_or-set_other}
use Rattle.laws.specs.Bits.{has}
use Rattle.laws.proofs.Bits.{has_or}
use Rattle.laws.proofs.Bounded.{sum_change}
use Rattle.laws.proofs.Tests.{or_left, or_right, or_passes}
use Rattle.buffer.proofs.NumberTableLaws.{or_above}
use Rattle.tables.specs.Sixteen.{InRows, Sixteen, rows_left, RowJoined}
use Rattle.tables.proofs.RowLaws.{has_nothing}

-- ---- rows without pairs

-- so many of them
unfoldable pub empty_rows : ℕ → List ℕ
empty_rows zero = []
empty_rows (suc k) = 0 ∷ empty_rows k

-- each of them is 0
pub empty_row : (k p : ℕ) → get_or (empty_rows k) p 0 ≡ 0
unfolding empty_rows
empty_row zero p = refl
empty_row (suc k) zero = refl
empty_row (suc k) (suc p) = empty_row k p

-- sixteen of them
pub empty_sixteen : Sixteen (empty_rows 16)
unfolding empty_rows
empty_sixteen = record { long = refl; small = λ p. rw (empty_row 16 p) (omega arith) }

-- they hold no pair
pub empty_none : (k p q : ℕ) → InRows (empty_rows k) p q → ⊥
empty_none k p q h = has_nothing q (empty_row k p) h

-- ---- a set joined into a row

module _ (rows : List ℕ) (state s word : ℕ) (sixteen : length rows ≡ 16) (small : state < 16) (joined : word ≡ bit_or (get_or rows state 0) s) where
  -- the row that a set was joined into
  word_here : (q : ℕ) → has (get_or (set rows state word) state 0) q ≡ (has (get_or rows state 0) q || has s q)
  word_here q =
      ap (λ (x : ℕ). has x q) (get_or-set_same rows state word 0 (omega arith) ∙ joined) ∙ has_or (get_or rows state 0) s q

  -- the pairs that were there
  pub rows_old : (p q : ℕ) → InRows rows p q → InRows (set rows state word) p q
  rows_old p q h =
      by_cases (ℕ_discrete p state)
      (λ (e : p ≡ state). rw e (word_here q ∙ or_left (has (get_or rows state 0) q) (has s q) (rw e at h)))
      (λ (ne : p ≡ state → ⊥). rw (get_or-set_other rows state p word 0 ne) h)

  -- those of the set
  pub rows_here : (q : ℕ) → has s q ≡ true → InRows (set rows state word) state q
  rows_here q h = word_here q ∙ or_right (has (get_or rows state 0) q) (has s q) h

  -- and no others
  pub rows_fresh : (p q : ℕ) → InRows (set rows state word) p q → InRows rows p q ⊎ ((p ≡ state) × (has s q ≡ true))
  rows_fresh p q h =
      by_cases (ℕ_discrete p state)
      (λ (e : p ≡ state).
      ⊎_elim
      (λ (y : has (get_or rows state 0) q ≡ true). inl (rw e y))
      (λ (y : has s q ≡ true). inr (e, y))
      (or_passes (has (get_or rows state 0) q) (has s q) (sym (word_here q) ∙ (rw e at h))))
      (λ (ne : p ≡ state → ⊥). inl (rw (get_or-set_other rows state p word 0 ne) at h))

module _ (l : List ℕ) (p s : ℕ) (sixteen : Sixteen l) (small : p < 16) (fits : s < 65536) where
  -- a set that the row holds, in the shape of the code
  pub row_same : bit_or (get_or l p 0) s ≡ get_or l p 0 → RowJoined l l p s 0
  row_same same = record {
    sixteen = sixteen;
    held = λ r q h x. x;
    here = λ q h.
        ap (λ (z : ℕ). has z q) (sym same) ∙ has_or (get_or l p 0) s q ∙ or_right (has (get_or l p 0) q) (has s q) h;
    new = λ r q h x. inl x;
    none = λ e. refl;
    left = omega arith;
  }

  -- the union has two bytes
  union_fits : bit_or (get_or l p 0) s < 65536
  union_fits = or_lt 16 (get_or l p 0) s (sixteen.small p) fits

  -- and so has every row after it is stored
  rows_small : (r : ℕ) → get_or (set l p (bit_or (get_or l p 0) s)) r 0 < 65536
  rows_small r =
      by_cases (ℕ_discrete r p)
      (λ (e : r ≡ p). rw (e, get_or-set_same l p (bit_or (get_or l p 0) s) 0 (omega (arith, sixteen.long))) union_fits)
      (λ (ne : r ≡ p → ⊥). rw (get_or-set_other l p r (bit_or (get_or l p 0) s) 0 ne) (sixteen.small r))

  -- the room falls where the row grows
  room_less
      : (bit_or (get_or l p 0) s ≡ get_or l p 0 → ⊥) → rows_left (set l p (bit_or (get_or l p 0) s)) + 1 ≤ rows_left l
  unfolding rows_left
  room_less ne =
      let here = get_or-set_same l p (bit_or (get_or l p 0) s) 0 (omega (arith, sixteen.long)) in
      let above = or_above (get_or l p 0) s in
      let c = sum_change 16 (λ i. 65535 - get_or (set l p (bit_or (get_or l p 0) s)) i 0) (λ i. 65535 - get_or l i 0) p 1 0 small
      (λ i x y. ap (λ (z : ℕ). 65535 - z) (get_or-set_other l p i (bit_or (get_or l p 0) s) 0 y)) (omega (arith, union_fits)) in
      omega arith

  -- a set that makes the row grow
  pub row_grows
      : (bit_or (get_or l p 0) s ≡ get_or l p 0 → ⊥) → RowJoined l (set l p (bit_or (get_or l p 0) s)) p s 1
  row_grows ne = record {
    sixteen = record { long = length-set l p (bit_or (get_or l p 0) s) ∙ sixteen.long; small = rows_small };
    held = λ r q h x. rows_old l p s (bit_or (get_or l p 0) s) sixteen.long small refl r q x;
    here = λ q h. rows_here l p s (bit_or (get_or l p 0) s) sixteen.long small refl q h;
    new = λ r q h x. rows_fresh l p s (bit_or (get_or l p 0) s) sixteen.long small refl r q x;
    none = λ e. absurd (omega arith);
    left = room_less ne;
  }
