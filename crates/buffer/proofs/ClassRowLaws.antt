-- Laws of the class rows: what a store of a joined row does to the pairs held, and which stores leave them. All that is said of how a row is
-- packed is used here.
-- Assumes nothing.
use mathlib.Core.Path.{◌≡◌, refl, sym, ap, subst, ◌∙◌}
use mathlib.Core.Logic.{◌⊎◌, inl, inr, ⊎_elim, by_cases, ◌≢◌}
use mathlib.Core.Bool.{true}
use mathlib.Core.List.{List}
use Prim.Native.Nat.{ℕ, suc, ◌+◌, ◌-◌, ◌*◌, ◌≤◌, ◌<◌}
use native.Mathlib.Decide.{dec_lt, ℕ_discrete}
use native.Mathlib.Omega.{arith}
use lib.Bits.{bit_or, or_lt}
use lib.ListN.{get_or}
use Rattle.laws.specs.Bits.{has}
use Rattle.laws.specs.Bytes.{AreBytes, number_at, put_number}
use Rattle.laws.proofs.Bounded.{sum_bound}
use Rattle.laws.proofs.Bits.{has_or}
use Rattle.laws.proofs.Bytes.{number_lt, number_put, number_cong}
use Rattle.laws.proofs.Tests.{or_right}
use Rattle.buffer.specs.Layout.{class_part, class_size, class_place, found_part, Lent}
use Rattle.buffer.specs.Views.{class_row_in, HeldApart}
use Rattle.buffer.specs.Kept.{Zeroed}
use Rattle.buffer.specs.ClassRows.{ClassesKept, OnlyClasses, OnlyClassesOf, apart_left, ApartGrown, ApartJoined}
use Rattle.buffer.proofs.KeptLaws.{kept_none, kept_both, kept_put, number_kept}
use Rattle.buffer.proofs.NumberTableLaws.{number_row, NumberJoined, joined_here, joined_held, joined_new, room_falls}

-- ---- a set joined into a row, in the shape of the code

module _ (l : List ℕ) (n p s : ℕ) (long : Lent l) (few : n < 512) (small : p < 16) (bytes : AreBytes l) (fits : s < 65536) where
  -- a set that the row holds
  pub apart_same : (old : ℕ) → old ≡ number_at 2 l (class_part + (n * 16 + p) * 2) → bit_or old s ≡ old → ApartGrown l l n p s 0
  unfolding class_row_in
  apart_same old e h =
      let g : bit_or (number_at 2 l (class_part + (n * 16 + p) * 2)) s ≡ number_at 2 l (class_part + (n * 16 + p) * 2) = rw e at h in
      record {
        kept = kept_none l (class_place n) (class_place n + class_size);
        held = λ k r q x y z. z;
        here = λ q x.
            ap (λ (z : ℕ). has z q) (sym g) ∙ has_or (number_at 2 l (class_part + (n * 16 + p) * 2)) s q
            ∙ or_right (has (number_at 2 l (class_part + (n * 16 + p) * 2)) q) (has s q) x;
        new = λ k r q x y z. inl z;
        none = λ z. refl;
        left = omega arith;
      }

  -- a set that makes the row grow
  pub apart_grows
      : (m : List ℕ) (old : ℕ) → old ≡ number_at 2 l (class_part + (n * 16 + p) * 2) → (bit_or old s ≡ old → ⊥)
      → m ≡ put_number 2 l (class_part + (n * 16 + p) * 2) (bit_or old s) → ApartGrown l m n p s 1
  unfolding class_row_in apart_left
  apart_grows m old e h d =
      let o : old < 65536 = rw e (number_lt 2 l (class_part + (n * 16 + p) * 2) bytes) in
      let b = or_lt 16 old s o fits in
      let here : number_at 2 m (class_part + (n * 16 + p) * 2) ≡ bit_or old s =
      rw d (number_put 2 l (class_part + (n * 16 + p) * 2) (bit_or old s) b (omega arith)) in
      let j : NumberJoined l m class_part (n * 16 + p) s =
      record { here = rw (← e) here; others = λ i x g. rw d (number_row l class_part i (n * 16 + p) (bit_or old s) g) } in
      record {
        kept =
            kept_both l l m (class_place n) (class_place n + class_size) (class_part + (n * 16 + p) * 2) (class_part + (n * 16 + p) * 2 + 2)
            (kept_none l (class_place n) (class_place n + class_size)) (kept_put l m (class_part + (n * 16 + p) * 2) (bit_or old s) d)
            (omega arith) (omega arith);
        held = λ k r q x y z. joined_held j (k * 16 + r) q (omega arith) z;
        here = λ q x. joined_here j q x;
        new = λ k r q x y z.
            ⊎_elim
            (λ (a : has (number_at 2 l (class_part + (k * 16 + r) * 2)) q ≡ true). inl a)
            (λ (a : (k * 16 + r ≡ n * 16 + p) × (has s q ≡ true)). inr (omega (arith, a.0), (omega (arith, a.0), a.1)))
            (joined_new j (k * 16 + r) q (omega arith) z);
        none = λ z. absurd (omega arith);
        left = room_falls j (omega arith) (λ z. h (sym here ∙ z ∙ sym e)) (omega arith);
      }

-- ---- sixteen rows joined, in the shape of the code

-- the rows below p are joined
pub record JoiningApart (l m : List ℕ) (n : ℕ) (rows : List ℕ) (count p : ℕ) : Type 0 where
  pub kept : OnlyClassesOf n l m
  pub held : (k r q : ℕ) → k < 512 → r < 16 → HeldApart l k r q → HeldApart m k r q
  pub here : (r q : ℕ) → r < p → r < 16 → has (get_or rows r 0) q ≡ true → HeldApart m n r q
  pub new
      : (k r q : ℕ) → k < 512 → r < 16 → HeldApart m k r q → HeldApart l k r q ⊎ ((k ≡ n) × (has (get_or rows r 0) q ≡ true))
  pub none : count ≡ 0 → m ≡ l
  pub left : apart_left m + count ≤ apart_left l

-- none yet
pub joining_none : (l : List ℕ) (n : ℕ) (rows : List ℕ) → JoiningApart l l n rows 0 0
joining_none l n rows = record {
  kept = kept_none l (class_place n) (class_place n + class_size);
  held = λ k r q a b h. h;
  here = λ r q a. absurd (omega arith);
  new = λ k r q a b h. inl h;
  none = λ e. refl;
  left = omega arith;
}

-- a row more
pub joining_more
    : {l m k : List ℕ} {n p s count more : ℕ} {rows : List ℕ} → n < 512 → JoiningApart l m n rows count p → s ≡ get_or rows p 0
    → ApartGrown m k n p s more → JoiningApart l k n rows (count + more) (p + 1)
joining_more {l} {m} {k} {n} {p} {s} {count} {more} {rows} node inv is g = record {
  kept = kept_both l m k (class_place n) (class_place n + class_size) (class_place n) (class_place n + class_size) inv.kept g.kept
      (omega arith) (omega arith);
  held = λ x r q a b h. g.held x r q a b (inv.held x r q a b h);
  here = λ r q a b h.
      by_cases (ℕ_discrete r p)
      (λ (e : r ≡ p).
      subst (λ (x : ℕ). HeldApart k n x q) (sym e) (g.here q (subst (λ (x : ℕ). has x q ≡ true) (ap (λ (x : ℕ). get_or rows x 0) e ∙ sym is) h)))
      (λ (ne : r ≢ p). g.held n r q node b (inv.here r q (omega arith) b h));
  new = λ x r q a b h.
      ⊎_elim
      (λ (y : HeldApart m x r q). inv.new x r q a b y)
      (λ (y : (x ≡ n) × ((r ≡ p) × (has s q ≡ true))).
      inr (y.0, subst (λ (z : ℕ). has z q ≡ true) (is ∙ ap (λ (z : ℕ). get_or rows z 0) (sym y.1.0)) y.1.1))
      (g.new x r q a b h);
  none = λ e. g.none (omega arith) ∙ inv.none (omega arith);
  left = omega (arith, inv.left, g.left);
}

-- all of them
pub joining_end : {l m : List ℕ} {n count p : ℕ} {rows : List ℕ} → JoiningApart l m n rows count p → 16 ≤ p → ApartJoined l m n rows count
joining_end inv all = record {
  kept = inv.kept;
  held = inv.held;
  here = λ r q a h. inv.here r q (omega arith) a h;
  new = inv.new;
  none = inv.none;
  left = inv.left;
}

-- ---- stores that leave them, and zeros

-- the room in them is no large number
pub apart_left_small : (l : List ℕ) → apart_left l ≤ 536862720
unfolding apart_left
apart_left_small l = sum_bound 8192 65535 (λ i. 65535 - number_at 2 l (class_part + i * 2)) (λ i h. omega arith)

-- those of one node lie among all
pub only_classes : (l m : List ℕ) (n : ℕ) → n < 512 → OnlyClassesOf n l m → OnlyClasses l m
only_classes l m n h s =
    kept_both l l m class_part found_part (class_place n) (class_place n + class_size) (kept_none l class_part found_part) s (omega arith) (omega arith)

-- the rows of other nodes are as they were
pub class_kept : (l m : List ℕ) (n k p : ℕ) → OnlyClassesOf n l m → p < 16 → k ≢ n → class_row_in m k p ≡ class_row_in l k p
unfolding class_row_in
class_kept l m n k p s h ne =
    number_kept l m (class_place n) (class_place n + class_size) s (class_part + (k * 16 + p) * 2)
    (by_cases (dec_lt k n) (λ (g : k < n). inl (omega arith)) (λ g. inr (omega (arith, ne))))

-- where the bytes of the rows are as they were, so are the rows
pub class_row_kept : (l m : List ℕ) → ClassesKept l m → (n p : ℕ) → n < 512 → p < 16 → class_row_in m n p ≡ class_row_in l n p
unfolding class_row_in
class_row_kept l m s n p h k =
    number_cong 2 m l (class_part + (n * 16 + p) * 2) (class_part + (n * 16 + p) * 2)
    (λ i g. s.outside (class_part + (n * 16 + p) * 2 + i) (omega arith, omega arith))

-- rows of zeros hold nothing
pub zeroed_empty : (l m : List ℕ) → Zeroed l m class_part found_part → (k p : ℕ) → k < 512 → p < 16 → class_row_in m k p ≡ 0
unfolding class_row_in number_at
zeroed_empty l m z k p h g =
    omega (arith, z.zeros (class_part + (k * 16 + p) * 2) (omega arith) (omega arith), z.zeros (suc (class_part + (k * 16 + p) * 2)) (omega arith) (omega arith))
