-- Laws of the tests of a P line, in the shape of the code, and of the numbers that pass them.
-- Assumes nothing.
use mathlib.Core.Path.{◌≡◌, refl, sym, ◌∙◌}
use mathlib.Core.Bool.{Bool, true, false, ◌||◌, true≢false}
use mathlib.Core.List.{List, []}
use Prim.Native.Nat.{ℕ, zero, suc, ◌/◌, ◌^◌, ◌≤◌, ◌<◌}
use native.Mathlib.Nat.{lt_of_lt_of_le}
use native.Mathlib.Omega.{arith}
use lib.Dec.{eqb, ltb}
use lib.Pow.{pow_mono}
use borrow.Author.Tests.{eq-eqb, ne_eqb, eqb-true, le-leb, lt-ltb, ltb-true}
use Rattle.laws.proofs.Bits.{shr_zero_says, below_says}
use Rattle.laws.proofs.Tests.{fails_of, test_ext}
use Rattle.lines.specs.Line.{at}
use Rattle.jobfile.specs.File.{good_value, good_node}
use Rattle.jobhead.specs.Stored.{NodeFits}
use Rattle.jobfile.specs.Refusal.{NodeWithin}
use Rattle.jobfile.proofs.WithinLaws.{value_says, node_says}

-- a shift that leaves nothing
pub shr_test : (v a : ℕ) → eqb (v / 2 ^ a) 0 ≡ ltb v (2 ^ a)
shr_test v a =
    test_ext (eqb (v / 2 ^ a) 0) (ltb v (2 ^ a))
    (λ h. lt-ltb v (2 ^ a) ((shr_zero_says a v).0 (eqb-true (v / 2 ^ a) 0 h)))
    (λ h. eq-eqb (v / 2 ^ a) 0 ((shr_zero_says a v).1 (ltb-true v (2 ^ a) h)))

-- the kinds of a call
pub value_set : (a k v : ℕ) → (k ≡ 0 → ⊥) → (k ≡ 1 → ⊥) → k < 4 → eqb (v / 2 ^ a) 0 ≡ good_value a k v
value_set a zero v p q r = absurd (p refl)
value_set a (suc zero) v p q r = absurd (q refl)
value_set a (suc (suc zero)) v p q r = shr_test v a
value_set a (suc (suc (suc zero))) v p q r = shr_test v a
value_set a (suc (suc (suc (suc k)))) v p q r = absurd (omega arith)

-- a kind above 3
pub value_none : (a k v : ℕ) → 4 ≤ k → good_value a k v ≡ false
value_none a zero v h = absurd (omega arith)
value_none a (suc zero) v h = absurd (omega arith)
value_none a (suc (suc zero)) v h = absurd (omega arith)
value_none a (suc (suc (suc zero))) v h = absurd (omega arith)
value_none a (suc (suc (suc (suc k)))) v h = refl

module _ (s a place : ℕ) (ns : List ℕ) where
  -- the test of the code's numbers
  abbrev pub Test : Bool
  Test = good_node s a place [] ns

  -- a test that would pass against what the line has
  denied : (NodeWithin s a place ns → ⊥) → false ≡ Test
  denied h = sym (fails_of Test (λ t. h ((node_says s a place [] ns).0 t)))

  -- a node out of order
  pub node_place : (at ns 0 ≡ place → ⊥) → false ≡ Test
  node_place h = denied (λ w. h w.node)

  -- a value that its kind has not
  pub node_value : good_value a (at ns 1) (at ns 2) ≡ false → false ≡ Test
  node_value h =
      denied (λ w. true≢false (sym ((value_says a (at ns 1) (at ns 2)).1 (w.kind, w.plain_value, w.symbol, w.call_set)) ∙ h))

  -- an entry set with a state of S or more
  pub node_entries : (at ns 3 / 2 ^ s ≡ 0 → ⊥) → false ≡ Test
  node_entries h = denied (λ w. h ((shr_zero_says s (at ns 3)).1 ((below_says s (at ns 3)).1 w.entry_set)))

  -- an exit mark above 1
  pub node_exits : 1 < at ns 4 → false ≡ Test
  node_exits h = denied (λ w. absurd (omega (arith, w.exit_mark)))

  -- an after set with a symbol of A or more
  pub node_after : (at ns 5 / 2 ^ a ≡ 0 → ⊥) → false ≡ Test
  node_after h = denied (λ w. h ((shr_zero_says a (at ns 5)).1 ((below_says a (at ns 5)).1 w.after_set)))

  module _ (p1 : at ns 0 ≡ place) (p2 : good_value a (at ns 1) (at ns 2) ≡ true) (p3 : at ns 3 / 2 ^ s ≡ 0) (p4 : at ns 4 ≤ 1)
      (p5 : at ns 5 / 2 ^ a ≡ 0) where
    -- the first five tests pass
    node_last : Test ≡ (eqb (at ns 4) 1 || eqb (at ns 5) 0)
    node_last =
        rw (
          eq-eqb (at ns 0) place p1,
          p2,
          lt-ltb (at ns 3) (2 ^ s) ((shr_zero_says s (at ns 3)).0 p3),
          le-leb (at ns 4) 1 p4,
          lt-ltb (at ns 5) (2 ^ a) ((shr_zero_says a (at ns 5)).0 p5),
        )

    -- an exit
    pub node_exit : at ns 4 ≡ 1 → true ≡ Test
    node_exit e = sym (node_last ∙ rw (eq-eqb (at ns 4) 1 e))

    -- no exit, and so no after set
    pub node_inner : (at ns 4 ≡ 1 → ⊥) → eqb (at ns 5) 0 ≡ Test
    node_inner e = sym (node_last ∙ rw (ne_eqb (at ns 4) 1 e))

-- ---- what a P line that passes has

-- two to a number of at most 16
pub pow_small : (n : ℕ) → n ≤ 16 → 2 ^ n ≤ 65536
pow_small n h = pow_mono h

-- a value that passes has two bytes
value_small : (a k v : ℕ) → a ≤ 16 → good_value a k v ≡ true → v < 65536
value_small a zero v h g = omega (arith, eqb-true v 0 g)
value_small a (suc zero) v h g = omega (arith, ltb-true v a g)
value_small a (suc (suc zero)) v h g = lt_of_lt_of_le (ltb-true v (2 ^ a) g) (pow_small a h)
value_small a (suc (suc (suc zero))) v h g = lt_of_lt_of_le (ltb-true v (2 ^ a) g) (pow_small a h)
value_small a (suc (suc (suc (suc k)))) v h g = absurd (true≢false (sym g))

-- a line that passes fits the bytes of a node
pub node_fits : (s a place : ℕ) (ns : List ℕ) → s ≤ 16 → a ≤ 16 → Test s a place ns ≡ true → NodeFits ns
node_fits s a place ns hs ha g =
    let w = (node_says s a place [] ns).0 g in
    record {
      kind = omega (arith, w.kind);
      value = value_small a (at ns 1) (at ns 2) ha ((value_says a (at ns 1) (at ns 2)).1 (w.kind, w.plain_value, w.symbol, w.call_set));
      entries = lt_of_lt_of_le ((below_says s (at ns 3)).1 w.entry_set) (pow_small s hs);
      exits = omega (arith, w.exit_mark);
      after = lt_of_lt_of_le ((below_says a (at ns 5)).1 w.after_set) (pow_small a ha);
    }
