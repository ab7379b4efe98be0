-- Laws of a list of which a part is replaced, place by place: of numbers moved up, moved down, and changed where they stand.
-- Assumes nothing.
use mathlib.Core.Path.{◌≡◌, refl, sym, ap, ◌∙◌}
use mathlib.Core.Bool.{Bool, true, false, cond, ◌&&◌}
use mathlib.Core.List.{List, ◌++◌}
use Prim.Native.Nat.{ℕ, ◌+◌, ◌-◌, ◌≤◌, ◌<◌}
use native.Mathlib.Omega.{arith}
use lib.Dec.{leb, ltb}
use lib.ListN.{length, get_or, take, drop, length-drop, length-append, get_or-append, replicate, length-replicate, get_or-replicate}
use lib.Seq.{length-take-le, get_or-take, get_or-drop}
use Rattle.std.proofs.lemmas.List.{get_or-append_right}
use borrow.Rule.Slice.PartMut.{mid_of, put_mid}
use borrow.Author.Tests.{ltb-true, ltb-false, leb-true, leb-false}
use Rattle.laws.specs.Bounded.{tab}
use Rattle.laws.proofs.Bounded.{fill_done}
use Rattle.arrivals.specs.Shifts.{opened, closed}

-- ---- a part replaced

-- m is l, but from place a to before b it has the values of f
pub record Replaced (l m : List ℕ) (a b : ℕ) (f : ℕ → ℕ) : Type 0 where
  pub long : length m ≡ length l
  pub before : (j : ℕ) → j < a → get_or m j 0 ≡ get_or l j 0
  pub here : (j : ℕ) → a ≤ j → j < b → get_or m j 0 ≡ f j
  pub after : (j : ℕ) → b ≤ j → get_or m j 0 ≡ get_or l j 0

-- a part written anew: k is its length, and ys what it holds
pub replaced_part
    : (l ys : List ℕ) (a k : ℕ) → a + k ≤ length l → length ys ≡ k → Replaced l (put_mid a k l ys) a (a + k) (λ j. get_or ys (j - a) 0)
replaced_part l ys a k fits all =
    let head : length (take a l) ≡ a = length-take-le a l (omega arith) in
    let tail : List ℕ = drop k (drop a l) in
    record {
      long = omega (arith, length-append (take a l) (ys ++ tail), length-append ys tail, length-drop k (drop a l), length-drop a l);
      before = λ j h. get_or-append (take a l) (ys ++ tail) 0 j (omega arith) ∙ get_or-take a l j 0 h;
      here = λ j g h.
          get_or-append_right (take a l) (ys ++ tail) a j 0 head g ∙ get_or-append ys tail 0 (j - a) (omega arith);
      after = λ j h.
          get_or-append_right (take a l) (ys ++ tail) a j 0 head (omega arith)
          ∙ get_or-append_right ys tail k (j - a) 0 all (omega arith) ∙ get_or-drop k (drop a l) (j - a - k) 0
          ∙ get_or-drop a l (k + (j - a - k)) 0 ∙ ap (λ (n : ℕ). get_or l n 0) (omega arith);
    }

-- what is one value where a test passes, and another where it fails
told : (t : Bool) (x y v : ℕ) → (t ≡ true → v ≡ x) → (t ≡ false → v ≡ y) → v ≡ cond t x y
told true x y v p q = p refl
told false x y v p q = q refl

-- the same for two tests at once
told_both
    : (s t : Bool) (x y v : ℕ) → (s ≡ true → t ≡ true → v ≡ x) → (s ≡ false → v ≡ y) → (t ≡ false → v ≡ y) → v ≡ cond (s && t) x y
told_both true t x y v p q r = told t x y v (p refl) r
told_both false t x y v p q r = q refl

-- ---- numbers moved up

-- the numbers from `at` on are moved up by the length of the new ones, which are stored before them
pub up_done
    : (l m ys new : List ℕ) (at end w : ℕ) → ys ≡ new → w ≡ length new → at ≤ end → end + length new ≤ length l
    → Replaced l m (at + length new) (end + length new) (λ j. get_or l (j - length new) 0) → put_mid at w m ys ≡ opened at end new l
unfolding opened
up_done l m ys new at end w e q few fits r =
    let k = put_mid at w m ys in
    let s = replaced_part m ys at w (omega (arith, r.long)) (ap length e ∙ sym q) in
    fill_done k (length l) _ 0 (s.long ∙ r.long)
    (λ j h.
    told (ltb j at) _ _ (get_or k j 0) (λ t. s.before j (ltb-true j at t) ∙ r.before j (omega (arith, ltb-true j at t)))
    (λ t.
    told (ltb j (at + length new)) _ _ (get_or k j 0)
    (λ u. s.here j (ltb-false j at t) (omega (arith, ltb-true j (at + length new) u)) ∙ ap (λ (x : List ℕ). get_or x (j - at) 0) e)
    (λ u.
    let past = ltb-false j (at + length new) u in
    told (ltb j (end + length new)) _ _ (get_or k j 0)
    (λ v. s.after j (omega arith) ∙ r.here j past (ltb-true j (end + length new) v))
    (λ v. s.after j (omega arith) ∙ r.after j (ltb-false j (end + length new) v)))))

-- ---- numbers moved down

-- the numbers before `end` are moved down by w places, and zeros are stored in the places that are freed, from `freed` on
pub down_done
    : (l m ys : List ℕ) (w at end freed k : ℕ) → ys ≡ replicate (length (mid_of freed k m)) 0 → k ≡ w → freed + w ≡ end → at ≤ freed → end ≤ length l
    → Replaced l m at freed (λ j. get_or l (j + w) 0) → put_mid freed k m ys ≡ closed at end w l
unfolding closed
down_done l m ys w at end freed k e q place some fits r =
    let now = put_mid freed k m ys in
    let long : length (mid_of freed k m) ≡ k = length-take-le k (drop freed m) (omega (arith, r.long, length-drop freed m)) in
    let s = replaced_part m ys freed k (omega (arith, r.long)) (ap length e ∙ length-replicate _ 0 ∙ long) in
    fill_done now (length l) _ 0 (s.long ∙ r.long)
    (λ j h.
    told (ltb j at) _ _ (get_or now j 0) (λ t. s.before j (omega (arith, ltb-true j at t)) ∙ r.before j (ltb-true j at t))
    (λ t.
    told (ltb (j + w) end) _ _ (get_or now j 0)
    (λ u. let moved = ltb-true (j + w) end u in s.before j (omega arith) ∙ r.here j (ltb-false j at t) (omega arith))
    (λ u.
    let past = ltb-false (j + w) end u in
    told (ltb j end) _ _ (get_or now j 0)
    (λ v.
    let inside = ltb-true j end v in
    s.here j (omega arith) (omega arith) ∙ ap (λ (x : List ℕ). get_or x (j - freed) 0) e
    ∙ get_or-replicate _ (j - freed) 0 0 (omega arith))
    (λ v. let outside = ltb-false j end v in s.after j (omega arith) ∙ r.after j (omega arith)))))

-- ---- numbers changed where they stand

-- of a part, the numbers before place i are changed by h
pub record Changed (l m : List ℕ) (i : ℕ) (h : ℕ → ℕ) : Type 0 where
  pub long : length m ≡ length l
  pub changed : (j : ℕ) → j < i → get_or m j 0 ≡ h (get_or l j 0)
  pub kept : (j : ℕ) → i ≤ j → get_or m j 0 ≡ get_or l j 0

-- all of the part after place b, to place n, are changed
pub changed_done
    : (l m : List ℕ) (b n w i : ℕ) (h : ℕ → ℕ) → b < n → n < length l → w + b ≡ n → w ≤ i → Changed (mid_of (b + 1) w l) m i h
    → put_mid (b + 1) w l m ≡ tab (length l) (λ j. cond (ltb b j && leb j n) (h (get_or l j 0)) (get_or l j 0))
changed_done l m b n w i h some fits part all r =
    let k = put_mid (b + 1) w l m in
    let long : length m ≡ w = r.long ∙ length-take-le w (drop (b + 1) l) (omega (arith, length-drop (b + 1) l)) in
    let s = replaced_part l m (b + 1) w (omega arith) long in
    fill_done k (length l) _ 0 s.long
    (λ j f.
    told_both (ltb b j) (leb j n) _ _ (get_or k j 0)
    (λ u t.
    let above = ltb-true b j u in
    let below = leb-true j n t in
    let place : b + 1 + (j - (b + 1)) ≡ j = omega arith in
    s.here j (omega arith) (omega arith) ∙ r.changed (j - (b + 1)) (omega arith)
    ∙ ap h (get_or-take w (drop (b + 1) l) (j - (b + 1)) 0 (omega arith) ∙ get_or-drop (b + 1) l (j - (b + 1)) 0)
    ∙ ap (λ (i : ℕ). h (get_or l i 0)) place)
    (λ u. s.before j (omega (arith, ltb-false b j u)))
    (λ t. s.after j (omega (arith, leb-false j n t))))
