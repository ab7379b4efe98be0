-- What lists become, by what moving their numbers leaves: numbers put in, numbers taken out, and starts that go up or down by one.
-- Assumes nothing.
use mathlib.Core.Path.{◌≡◌, refl, sym, ap, ◌∙◌}
use mathlib.Core.Logic.{◌⊎◌, inl, inr, ⊎_elim, by_cases}
use mathlib.Core.Bool.{Bool, true, false, cond, ◌&&◌}
use mathlib.Core.List.{List, ◌++◌}
use Prim.Native.Nat.{ℕ, ◌+◌, ◌-◌, ◌≤◌, ◌<◌}
use native.Mathlib.Omega.{arith}
use native.Mathlib.Decide.{dec_le}
use lib.Dec.{leb, ltb}
use lib.ListN.{length, get_or, length-append, get_or-append}
use lib.Seq.{get_or-append-add}
use borrow.Author.Tests.{lt-ltb, le-ltb, le-leb, lt-leb}
use Rattle.laws.specs.Bounded.{tab}
use Rattle.laws.proofs.Bounded.{length_tab, get_d_tab, tab_cong}
use Rattle.arrivals.specs.Arrivals.{becomes}
use Rattle.arrivals.specs.Shifts.{opened, closed, raised, lowered}
use Rattle.arrivals.proofs.ChangedLaws.{new_at, new_in, new_rest, new_past}

-- a place is before another, or so many after it
pub cut : (i n : ℕ) → (i < n) ⊎ ((j : ℕ) × (i ≡ n + j))
cut i n = by_cases (dec_le n i) (λ (h : n ≤ i). inr (i - n, omega arith)) (λ h. inl (omega arith))

-- a test of two fails where the second does
and_right : (a b : Bool) → b ≡ false → (a && b) ≡ false
and_right true b h = h
and_right false b h = refl

-- the choices that a list's places are told by: the first, where its test passes, and the rest, where it fails
first : (b : Bool) (x y : ℕ) → b ≡ true → cond b x y ≡ x
first b x y h = simp h

rest : (b : Bool) (x y : ℕ) → b ≡ false → cond b x y ≡ y
rest b x y h = simp h

-- a place of a list with numbers put in
open_at : ℕ → ℕ → List ℕ → List ℕ → ℕ → ℕ
open_at at end new l i =
    cond
    (ltb i at)
    (get_or l i 0)
    (cond (ltb i (at + length new)) (get_or new (i - at) 0) (cond (ltb i (end + length new)) (get_or l (i - length new) 0) (get_or l i 0)))

-- past the place where they are put in
open_past
    : (at end : ℕ) (new l : List ℕ) (j : ℕ)
    → open_at at end new l (at + j)
    ≡ cond (ltb (at + j) (at + length new)) (get_or new j 0) (cond (ltb (at + j) (end + length new)) (get_or l (at + j - length new) 0) (get_or l (at + j) 0))
unfolding open_at
open_past at end new l j =
    let q : at + j - at ≡ j = omega arith in
    rest (ltb (at + j) at) _ _ (le-ltb (at + j) at (omega arith))
    ∙ ap
    (λ (k : ℕ).
    cond (ltb (at + j) (at + length new)) (get_or new k 0)
    (cond (ltb (at + j) (end + length new)) (get_or l (at + j - length new) 0) (get_or l (at + j) 0)))
    q

module _ (xs new ys l : List ℕ) (h : (i : ℕ) → i < length xs + length ys → get_or l i 0 ≡ get_or (xs ++ ys) i 0) where
  grown : length (xs ++ (new ++ ys)) ≡ length xs + (length new + length ys)
  grown = length-append xs (new ++ ys) ∙ ap (λ (k : ℕ). length xs + k) (length-append new ys)

  open_before
      : (i : ℕ) → i < length xs
      → new_at (length xs + length ys) (xs ++ (new ++ ys)) l i ≡ open_at (length xs) (length xs + length ys) new l i
  unfolding open_at
  open_before i m =
      new_in (length xs + length ys) (xs ++ (new ++ ys)) l i (omega (arith, grown)) ∙ get_or-append xs (new ++ ys) 0 i m
      ∙ sym (get_or-append xs ys 0 i m) ∙ sym (h i (omega arith)) ∙ sym (first (ltb i (length xs)) _ _ (lt-ltb i (length xs) m))

  open_new
      : (j : ℕ) → j < length new
      → new_at (length xs + length ys) (xs ++ (new ++ ys)) l (length xs + j) ≡ open_at (length xs) (length xs + length ys) new l (length xs + j)
  open_new j m =
      new_in (length xs + length ys) (xs ++ (new ++ ys)) l (length xs + j) (omega (arith, grown)) ∙ get_or-append-add xs (new ++ ys) j 0
      ∙ get_or-append new ys 0 j m
      ∙ sym
      (open_past (length xs) (length xs + length ys) new l j
      ∙ first (ltb (length xs + j) (length xs + length new)) _ _ (lt-ltb (length xs + j) (length xs + length new) (omega arith)))

  Open-after
      : (k : ℕ) → new_at (length xs + length ys) (xs ++ (new ++ ys)) l (length xs + (length new + k))
      ≡ open_at (length xs) (length xs + length ys) new l (length xs + (length new + k))
  Open-after k =
      let w = length new in
      let a = length xs in
      let end = length xs + length ys in
      let i = a + (w + k) in
      let past : open_at a end new l i ≡ cond (ltb i (end + w)) (get_or l (i - w) 0) (get_or l i 0) =
      open_past a end new l (w + k) ∙ rest (ltb i (a + w)) _ _ (le-ltb i (a + w) (omega arith)) in
      ⊎_elim
      (λ (m : k < length ys).
      let back : i - w ≡ a + k = omega arith in
      new_in end (xs ++ (new ++ ys)) l i (omega (arith, grown)) ∙ get_or-append-add xs (new ++ ys) (w + k) 0 ∙ get_or-append-add new ys k 0
      ∙ sym (get_or-append-add xs ys k 0) ∙ sym (h (a + k) (omega arith)) ∙ ap (λ (p : ℕ). get_or l p 0) (sym back)
      ∙ sym (past ∙ first (ltb i (end + w)) _ _ (lt-ltb i (end + w) (omega arith))))
      (λ (v : (j : ℕ) × (k ≡ length ys + j)).
      new_past end (xs ++ (new ++ ys)) l i (omega (arith, grown, v.1)) (omega (arith, v.1))
      ∙ sym (past ∙ rest (ltb i (end + w)) _ _ (le-ltb i (end + w) (omega (arith, v.1)))))
      (cut k (length ys))

  -- new numbers put in between those of a list
  pub becomes_opened : becomes (length xs + length ys) (xs ++ (new ++ ys)) l ≡ opened (length xs) (length xs + length ys) new l
  unfolding becomes opened new_at open_at
  becomes_opened =
      tab_cong (length l) (new_at (length xs + length ys) (xs ++ (new ++ ys)) l) (open_at (length xs) (length xs + length ys) new l)
      (λ i m.
      ⊎_elim
      (open_before i)
      (λ (w : (j : ℕ) × (i ≡ length xs + j)).
      rw w.1
      (⊎_elim
      (open_new w.0)
      (λ (v : (k : ℕ) × (w.0 ≡ length new + k)). rw v.1 (Open-after v.0))
      (cut w.0 (length new))))
      (cut i (length xs)))

-- a place of a list with numbers taken out
close_at : ℕ → ℕ → ℕ → List ℕ → ℕ → ℕ
close_at at end w l i = cond (ltb i at) (get_or l i 0) (cond (ltb (i + w) end) (get_or l (i + w) 0) (cond (ltb i end) 0 (get_or l i 0)))

module _ (xs out ys l : List ℕ) (h : (i : ℕ) → i < length xs + (length out + length ys) → get_or l i 0 ≡ get_or (xs ++ (out ++ ys)) i 0) where
  whole : ℕ
  whole = length xs + (length out + length ys)

  close_before : (i : ℕ) → i < length xs → new_at whole (xs ++ ys) l i ≡ close_at (length xs) whole (length out) l i
  unfolding close_at
  close_before i m =
      new_in whole (xs ++ ys) l i (omega (arith, length-append xs ys)) ∙ get_or-append xs ys 0 i m
      ∙ sym (get_or-append xs (out ++ ys) 0 i m) ∙ sym (h i (omega arith)) ∙ sym (first (ltb i (length xs)) _ _ (lt-ltb i (length xs) m))

  close_after : (j : ℕ) → new_at whole (xs ++ ys) l (length xs + j) ≡ close_at (length xs) whole (length out) l (length xs + j)
  unfolding close_at whole
  close_after j =
      let w = length out in
      let a = length xs in
      let i = a + j in
      let past : close_at a whole w l i ≡ cond (ltb (i + w) whole) (get_or l (i + w) 0) (cond (ltb i whole) 0 (get_or l i 0)) =
      rest (ltb i a) _ _ (le-ltb i a (omega arith)) in
      ⊎_elim
      (λ (m : j < length ys).
      let up : i + w ≡ a + (w + j) = omega arith in
      new_in whole (xs ++ ys) l i (omega (arith, length-append xs ys)) ∙ get_or-append-add xs ys j 0 ∙ sym (get_or-append-add out ys j 0)
      ∙ sym (get_or-append-add xs (out ++ ys) (w + j) 0) ∙ sym (h (a + (w + j)) (omega arith)) ∙ ap (λ (p : ℕ). get_or l p 0) (sym up)
      ∙ sym (past ∙ first (ltb (i + w) whole) _ _ (lt-ltb (i + w) whole (omega arith))))
      (λ (v : (k : ℕ) × (j ≡ length ys + k)).
      new_rest whole (xs ++ ys) l i (omega (arith, length-append xs ys, v.1))
      ∙ sym (past ∙ rest (ltb (i + w) whole) _ _ (le-ltb (i + w) whole (omega (arith, v.1)))))
      (cut j (length ys))

  -- numbers taken out between those of a list
  pub becomes_closed
      : becomes (length xs + (length out + length ys)) (xs ++ ys) l
      ≡ closed (length xs) (length xs + (length out + length ys)) (length out) l
  unfolding becomes closed new_at close_at whole
  becomes_closed =
      tab_cong (length l) (new_at whole (xs ++ ys) l) (close_at (length xs) whole (length out) l)
      (λ i m.
      ⊎_elim (close_before i) (λ (w : (j : ℕ) × (i ≡ length xs + j)). rw w.1 (close_after w.0)) (cut i (length xs)))

-- ---- the starts

module _ (up : ℕ → ℕ) (n b : ℕ) (new : ℕ → ℕ) (l : List ℕ) where
  -- a place of a list whose numbers after place b, to place n, are changed
  move_at : ℕ → ℕ
  move_at i = cond (ltb b i && leb i n) (up (get_or l i 0)) (get_or l i 0)

  -- the numbers to place b stay, and those after it change
  module _
      (same : (i : ℕ) → i ≤ b → i ≤ n → new i ≡ get_or l i 0)
      (changed : (i : ℕ) → b < i → i ≤ n → new i ≡ up (get_or l i 0)) where
    starts_in : (i : ℕ) → i < n + 1 → new_at (n + 1) (tab (n + 1) new) l i ≡ move_at i
    unfolding move_at
    starts_in i m =
        let within : leb i n ≡ true = le-leb i n (omega arith) in
        let there : new_at (n + 1) (tab (n + 1) new) l i ≡ new i =
        new_in (n + 1) (tab (n + 1) new) l i (omega (arith, length_tab (n + 1) new)) ∙ get_d_tab (n + 1) new i 0 m in
        ⊎_elim
        (λ (g : i < b + 1).
        let q : ltb b i ≡ false = le-ltb b i (omega arith) in
        there ∙ same i (omega arith) (omega arith) ∙ sym (rest (ltb b i && leb i n) _ _ (simp q)))
        (λ (g : (j : ℕ) × (i ≡ b + 1 + j)).
        let q : ltb b i ≡ true = lt-ltb b i (omega (arith, g.1)) in
        there ∙ changed i (omega (arith, g.1)) (omega arith) ∙ sym (first (ltb b i && leb i n) _ _ (simp (q, within))))
        (cut i (b + 1))

    starts_past : (j : ℕ) → new_at (n + 1) (tab (n + 1) new) l (n + 1 + j) ≡ move_at (n + 1 + j)
    unfolding move_at
    starts_past j =
        let past : leb (n + 1 + j) n ≡ false = lt-leb (n + 1 + j) n (omega arith) in
        new_past (n + 1) (tab (n + 1) new) l (n + 1 + j) (omega (arith, length_tab (n + 1) new)) (omega arith)
        ∙ sym (rest (ltb b (n + 1 + j) && leb (n + 1 + j) n) _ _ (and_right (ltb b (n + 1 + j)) (leb (n + 1 + j) n) past))

    starts_moved : becomes (n + 1) (tab (n + 1) new) l ≡ tab (length l) move_at
    unfolding becomes new_at
    starts_moved =
        tab_cong (length l) (new_at (n + 1) (tab (n + 1) new) l) move_at
        (λ i m. ⊎_elim (starts_in i) (λ (w : (j : ℕ) × (i ≡ n + 1 + j)). rw w.1 (starts_past w.0)) (cut i (n + 1)))

-- starts that go up by one after place b
pub becomes_raised
    : (n b : ℕ) (new : ℕ → ℕ) (l : List ℕ) → ((i : ℕ) → i ≤ b → i ≤ n → new i ≡ get_or l i 0)
    → ((i : ℕ) → b < i → i ≤ n → new i ≡ get_or l i 0 + 1) → becomes (n + 1) (tab (n + 1) new) l ≡ raised b n l
unfolding raised move_at
becomes_raised n b new l same changed = starts_moved (λ x. x + 1) n b new l same changed

-- starts that go down by one after place b
pub becomes_lowered
    : (n b : ℕ) (new : ℕ → ℕ) (l : List ℕ) → ((i : ℕ) → i ≤ b → i ≤ n → new i ≡ get_or l i 0)
    → ((i : ℕ) → b < i → i ≤ n → new i ≡ get_or l i 0 - 1) → becomes (n + 1) (tab (n + 1) new) l ≡ lowered b n l
unfolding lowered move_at
becomes_lowered n b new l same changed = starts_moved (λ x. x - 1) n b new l same changed
