-- Laws of class rows that grow: the rows of one node are joined one after another, and a search ends when none grows.
-- Assumes nothing.
use mathlib.Core.Path.{◌≡◌, refl, sym, subst, ◌∙◌}
use mathlib.Core.Logic.{◌⊎◌, ⊎_elim, ◌↔◌, by_cases, ◌≢◌}
use mathlib.Core.Bool.{true}
use mathlib.Core.List.{List}
use Prim.Native.Nat.{ℕ, zero, suc, ◌+◌, ◌-◌, ◌≤◌, ◌<◌}
use native.Mathlib.Decide.{ℕ_discrete}
use native.Mathlib.Omega.{arith}
use Rattle.laws.specs.Bits.{has}
use Rattle.buffer.specs.Layout.{class_size, class_place}
use Rattle.buffer.specs.Views.{HeldApart}
use Rattle.buffer.proofs.KeptLaws.{kept_none, kept_both}
use Rattle.buffer.specs.ClassRows.{OnlyClassesOf, apart_left, ApartGrown}

-- ---- the measure of a search that ends when no row grows

-- what is left: nothing once a round has grown no row
abbrev pub rank : ℕ → ℕ → ℕ
rank zero left = 0
rank (suc grown) left = suc left

-- a round that grows rows leaves less, and so does the one that grows none
pub rank_less : (grown new left l : ℕ) → grown ≢ 0 → left + new ≤ l → rank new left < rank grown l
rank_less zero new left l some h = absurd (some refl)
rank_less (suc grown) zero left l some h = omega arith
rank_less (suc grown) (suc new) left l some h = omega arith

-- ---- one row after another

-- every pair that the buffer holds is one of T
abbrev pub AllHeld : (ℕ → ℕ → ℕ → Type 0) → List ℕ → Type 0
AllHeld T w = (k r q : ℕ) → k < 512 → r < 16 → HeldApart w k r q → T k r q

-- the rows of node n below p were joined, each with the pairs that F has in the buffer of its turn; what T says of all pairs it still says
pub record RowsGrown {I : Type 0} (T : I → ℕ → ℕ → ℕ → Type 0) (F : List ℕ → ℕ → ℕ → Type 0) (l m : List ℕ) (n grown p : ℕ) : Type 0 where
  pub kept : OnlyClassesOf n l m
  pub held : (k r q : ℕ) → k < 512 → r < 16 → HeldApart l k r q → HeldApart m k r q
  pub sound
      : (i : I)
      → ((w : List ℕ) → OnlyClassesOf n l w → AllHeld (T i) w → (r q : ℕ) → r < 16 → F w r q
      → T i n r q)
      → AllHeld (T i) l → AllHeld (T i) m
  pub none : grown ≡ 0 → m ≡ l
  pub closed : grown ≡ 0 → (r q : ℕ) → r < p → F l r q → HeldApart l n r q
  pub left : apart_left m + grown ≤ apart_left l

-- no row is joined
pub rows_none : {I : Type 0} (T : I → ℕ → ℕ → ℕ → Type 0) (F : List ℕ → ℕ → ℕ → Type 0) (l : List ℕ) (n : ℕ) → RowsGrown T F l l n 0 0
rows_none T F l n = record {
  kept = kept_none l (class_place n) (class_place n + class_size);
  held = λ k r q h g m. m;
  sound = λ i back all. all;
  none = λ e. refl;
  closed = λ e r q h f. absurd (omega arith);
  left = omega arith;
}

-- row p is joined
pub rows_more
    : {I : Type 0} (T : I → ℕ → ℕ → ℕ → Type 0) (F : List ℕ → ℕ → ℕ → Type 0) (l m k : List ℕ) (n grown p row count : ℕ) → n < 512 → p < 16
    → RowsGrown T F l m n grown p → ((q : ℕ) → (has row q ≡ true) ↔ F m p q) → ApartGrown m k n p row count
    → RowsGrown T F l k n (grown + count) (p + 1)
rows_more T F l m k n grown p row count hn hp s members g = record {
  kept = kept_both l m k (class_place n) (class_place n + class_size) (class_place n) (class_place n + class_size) s.kept g.kept (omega arith)
      (omega arith);
  held = λ x r q a b h. g.held x r q a b (s.held x r q a b h);
  sound = λ i back all x r q a b h.
      ⊎_elim
      (λ (old : HeldApart m x r q). s.sound i back all x r q a b old)
      (λ (new : (x ≡ n) × ((r ≡ p) × (has row q ≡ true))).
      subst (λ (y : ℕ). T i y r q) (sym new.0)
      (subst (λ (y : ℕ). T i n y q) (sym new.1.0)
      (back m s.kept (s.sound i back all) p q hp ((members q).0 new.1.1))))
      (g.new x r q a b h);
  none = λ e. g.none (omega arith) ∙ s.none (omega arith);
  closed = λ e r q h f. closed e r q h f;
  left = omega (arith, s.left, g.left);
}
  where
    closed : grown + count ≡ 0 → (r q : ℕ) → r < p + 1 → F l r q → HeldApart l n r q
    closed e r q h f =
        let same : m ≡ l = s.none (omega arith) in
        let same' : k ≡ m = g.none (omega arith) in
        by_cases (ℕ_discrete r p)
        (λ (x : r ≡ p).
        let new : has row q ≡ true = (members q).1 (subst (λ (w : List ℕ). F w p q) (sym same) (subst (λ (y : ℕ). F l y q) x f)) in
        subst (λ (y : ℕ). HeldApart l n y q) (sym x)
        (subst (λ (w : List ℕ). HeldApart w n p q) (same' ∙ same) (g.here q new)))
        (λ (x : r ≢ p). s.closed (omega arith) r q (omega arith) f)
