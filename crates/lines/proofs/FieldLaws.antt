-- Laws of fields, in the shape of the code that reads them.
-- Assumes nothing.
use Rattle.std.specs.Prelude.{Option, Some, None}
use mathlib.Core.Path.{◌≡◌, sym, ap, ◌∙◌}
use mathlib.Core.Logic.{by_cases}
use mathlib.Core.List.{List, [], ◌∷◌}
use Prim.Native.Nat.{ℕ, zero, suc, ◌+◌, ◌-◌, ◌*◌, ◌%◌, ◌^◌, ◌≤◌, ◌<◌}
use native.Mathlib.Nat.{zero-add, add-zero, suc-add, pow-suc, lt_of_lt_of_le, pow-le-pow_right}
use lib.Dec.{lit<}
use native.Mathlib.Decide.{dec_lt}
use native.Mathlib.Numerals.{add-one}
use native.Mathlib.Omega.{arith}
use lib.ListN.{length, take, drop, get_or}
use lib.Seq.{slice, slice_empty, slice-cons, take-nil}
use borrow.Author.Tests.{le-leb, lt-leb, ne_eqb}
use Rattle.lines.specs.Line.{digits_of, field_of}

-- the columns from f up to f + n are the first n of those from f on
pub slice_part : (f n : ℕ) (l : List ℕ) → slice f (f + n) l ≡ take n (drop f l)
slice_part zero n l = rw zero-add
slice_part (suc f) n [] = rw (suc-add f n) (sym (take-nil n))
slice_part (suc f) n (x ∷ xs) = rw (suc-add f n) (slice_part f n xs)

-- the first column and the others, after the code's step
slice_step
    : (i end : ℕ) (l : List ℕ) → i < end → end ≤ length l → slice i end l ≡ get_or l i 0 ∷ slice (i + 1) end l
slice_step i end l h k = rw (add-one i) (slice-cons i end l 0 h k)

-- column i of the six from `at` on, and those past it
column_step
    : (l : List ℕ) (at i : ℕ) → i < 6 → at + 6 ≤ length l
    → slice (at + i) (at + 6) l ≡ get_or l (at + i) 0 ∷ slice (at + (i + 1)) (at + 6) l
column_step l at i h k =
    let next : at + i + 1 ≡ at + (i + 1) = omega arith in
    slice_step (at + i) (at + 6) l (omega arith) k
    ∙ ap {B = List ℕ} (λ (p : ℕ). get_or l (at + i) 0 ∷ slice p (at + 6) l) next

-- ---- spaces

-- a space is passed over
space_first : (b : ℕ) (bs : List ℕ) → b ≡ 32 → field_of (b ∷ bs) ≡ field_of bs
unfolding field_of
space_first b bs e = rw e

-- one column more is passed over
pub past_space
    : (l : List ℕ) (at i : ℕ) → i < 6 → at + 6 ≤ length l → get_or l (at + i) 0 ≡ 32
    → field_of (slice (at + 0) (at + 6) l) ≡ field_of (slice (at + i) (at + 6) l)
    → field_of (slice (at + 0) (at + 6) l) ≡ field_of (slice (at + (i + 1)) (at + 6) l)
past_space l at i h k e same =
    same ∙ ap field_of (column_step l at i h k) ∙ space_first (get_or l (at + i) 0) (slice (at + (i + 1)) (at + 6) l) e

-- ---- digits

-- a digit adds to the value
digit_first
    : (v b : ℕ) (bs : List ℕ) → 48 ≤ b → b ≤ 57 → digits_of v (b ∷ bs) ≡ digits_of (v * 10 + (b - 48)) bs
unfolding digits_of
digit_first v b bs h k = simp (le-leb 48 b h, le-leb b 57 k)

-- a byte below the digits is none
low_first : (v b : ℕ) (bs : List ℕ) → b < 48 → digits_of v (b ∷ bs) ≡ None
unfolding digits_of
low_first v b bs h = simp (lt-leb 48 b h)

-- a byte above them is none
high_first : (v b : ℕ) (bs : List ℕ) → 48 ≤ b → 57 < b → digits_of v (b ∷ bs) ≡ None
unfolding digits_of
high_first v b bs h k = simp (le-leb 48 b h, lt-leb b 57 k)

-- no column is left
pub digits_end
    : (l : List ℕ) (at i v : ℕ) (f : Option ℕ) → i ≡ 6 → f ≡ digits_of v (slice (at + i) (at + 6) l) → Some v ≡ f
unfolding digits_of
digits_end l at i v f e same = sym (same ∙ rw (e, slice_empty (at + 6) l))

-- column i is next, and d is what the code makes of it
module _ (l : List ℕ) (at i v d : ℕ) (f : Option ℕ) (h : i < 6) (k : at + 6 ≤ length l) (is : (d + 48) % 256 ≡ get_or l (at + i) 0) (low : d < 256)
    (same : f ≡ digits_of v (slice (at + i) (at + 6) l)) where
  -- the columns from there on
  here : f ≡ digits_of v (get_or l (at + i) 0 ∷ slice (at + (i + 1)) (at + 6) l)
  here = same ∙ ap (digits_of v) (column_step l at i h k)

  -- a digit
  pub digits_more : d ≤ 9 → f ≡ digits_of (v * 10 + d) (slice (at + (i + 1)) (at + 6) l)
  digits_more p =
      let counts : get_or l (at + i) 0 - 48 ≡ d = omega arith in
      here ∙ digit_first v (get_or l (at + i) 0) (slice (at + (i + 1)) (at + 6) l) (omega arith) (omega arith)
      ∙ ap (λ (x : ℕ). digits_of (v * 10 + x) (slice (at + (i + 1)) (at + 6) l)) counts

  -- any other byte
  pub digits_none : 9 < d → None ≡ f
  digits_none p =
      by_cases (dec_lt (get_or l (at + i) 0) 48)
      (λ (m : get_or l (at + i) 0 < 48). sym (here ∙ low_first v (get_or l (at + i) 0) (slice (at + (i + 1)) (at + 6) l) m))
      (λ g. sym (here ∙ high_first v (get_or l (at + i) 0) (slice (at + (i + 1)) (at + 6) l) (omega arith) (omega arith)))

-- one digit more
pub digit_lt : (v d i at : ℕ) → at ≤ i → v < 10 ^ (i - at) → d < 10 → v * 10 + d < 10 ^ (i + 1 - at)
digit_lt v d i at a h p =
    let e : i + 1 - at ≡ suc (i - at) = omega arith in
    rw e (omega (arith, pow-suc 10 (i - at)))

-- no digit yet
pub few_none : (at : ℕ) → 0 < 10 ^ (at - at)
few_none at = let e : at - at ≡ 0 = omega arith in rw e (lit< tt)

-- at most six digits
pub digits_few : (v i at : ℕ) → i < at + 6 → v < 10 ^ (i - at) → v < 100000
digits_few v i at h p = lt_of_lt_of_le p (pow-le-pow_right {n = 10} (lit< tt) {j = 5} (omega arith))

-- ---- the field

-- no space comes first
pub digit_leads : (b : ℕ) (bs : List ℕ) → (b ≡ 32 → ⊥) → field_of (b ∷ bs) ≡ digits_of 0 (b ∷ bs)
unfolding field_of
digit_leads b bs p = simp (ne_eqb b 32 p)

-- the field, from its first column
first_column : (l : List ℕ) (at : ℕ) → field_of (take 6 (drop at l)) ≡ field_of (slice (at + 0) (at + 6) l)
first_column l at = ap field_of (sym (slice_part at 6 l) ∙ ap (λ (p : ℕ). slice p (at + 6) l) (sym (add-zero at)))

-- nothing but spaces
pub field_spaces
    : (l : List ℕ) (at r : ℕ) → r ≡ 6 → field_of (slice (at + 0) (at + 6) l) ≡ field_of (slice (at + r) (at + 6) l)
    → None ≡ field_of (take 6 (drop at l))
unfolding field_of
field_spaces l at r e same = sym (first_column l at ∙ same ∙ rw (e, slice_empty (at + 6) l))

-- digits past the spaces
pub field_digits
    : (l : List ℕ) (at r : ℕ) → r < 6 → at + 6 ≤ length l
    → field_of (slice (at + 0) (at + 6) l) ≡ field_of (slice (at + r) (at + 6) l) → (get_or l (at + r) 0 ≡ 32 → ⊥)
    → digits_of 0 (slice (at + r) (at + 6) l) ≡ field_of (take 6 (drop at l))
field_digits l at r h k same p =
    let first = column_step l at r h k in
    sym (first_column l at ∙ same ∙ ap field_of first ∙ digit_leads (get_or l (at + r) 0) (slice (at + (r + 1)) (at + 6) l) p
    ∙ ap (digits_of 0) (sym first))
