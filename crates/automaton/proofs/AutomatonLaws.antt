-- Laws of a rule: what its test says, and that cells past S or A are not looked at.
-- Assumes nothing.
use mathlib.Core.Path.{◌≡◌, sym, ap, ◌∙◌}
use mathlib.Core.Logic.{◌↔◌}
use mathlib.Core.Bool.{Bool, true, false, ◌&&◌, and-eq-true_iff}
use mathlib.Core.List.{List}
use Prim.Native.Nat.{ℕ, ◌/◌, ◌^◌, ◌<◌, ◌≤◌}
use native.Mathlib.Omega.{arith}
use lib.Dec.{eqb}
use borrow.Author.Tests.{ltb-true, leb-true, lt-ltb, le-ltb, le-leb, eqb-true, eq-eqb}
use Rattle.laws.specs.Bits.{has}
use Rattle.laws.proofs.Bounded.{all_at, all_of, all_fails}
use Rattle.laws.proofs.Bits.{below_says, shr_zero_says}
use Rattle.laws.proofs.Tests.{fails_of, test_ext}
use Rattle.automaton.specs.Automaton.{Automaton, automaton_of, cell, cell_below, cells_below, numbers_fit, NumbersFit, NumbersFitSays, well_formed, WellFormed, WellFormedSays, SameRule, TestsNoOtherCell}

-- one next state of s or more in the part is enough
pub cell_fails : (t : List (List ℕ)) (s a q c : ℕ) → q < s → c < a → cell_below t s q c ≡ false → cells_below t s a ≡ false
unfolding cells_below
cell_fails t s a q c hq hc e = all_fails s _ q hq (all_fails a (cell_below t s q) c hc e)

-- a number that is the cell and not below s, and one that is and is below s
pub cell_high : (t : List (List ℕ)) (s q c n : ℕ) → n ≡ cell t q c → s ≤ n → cell_below t s q c ≡ false
cell_high t s q c n e h = le-ltb (cell t q c) s (rw e at h)

pub cell_low : (t : List (List ℕ)) (s q c n : ℕ) → n ≡ cell t q c → n < s → cell_below t s q c ≡ true
cell_low t s q c n e h = lt-ltb (cell t q c) s (rw e at h)

-- what the test of the part says
pub cells_says : (t : List (List ℕ)) (s a : ℕ) → (cells_below t s a ≡ true) ↔ ((q c : ℕ) → q < s → c < a → cell t q c < s)
unfolding cells_below
cells_says t s a = (
  λ h q c hq hc. ltb-true _ _ (all_at a (cell_below t s q) (all_at s _ h q hq) c hc),
  λ h. all_of s _ (λ q hq. all_of a (cell_below t s q) (λ c hc. lt-ltb _ _ (h q c hq hc))),
)

-- `numbers_fit` says `NumbersFit`
pub numbers_fit_says : NumbersFitSays
numbers_fit_says s a f = (
  λ h.
      let outer = (and-eq-true_iff _ _).0 h in
      let sizes = (and-eq-true_iff _ _).0 outer.0 in
      let states = (and-eq-true_iff _ _).0 sizes.0 in
      let symbols = (and-eq-true_iff _ _).0 sizes.1 in
      record {
        some_state = leb-true _ _ states.0;
        few_states = leb-true _ _ states.1;
        some_symbol = leb-true _ _ symbols.0;
        few_symbols = leb-true _ _ symbols.1;
        finals_below = (below_says s f).0 (ltb-true _ _ outer.1);
      },
  λ w.
      (and-eq-true_iff _ _).1 (
        (and-eq-true_iff _ _).1 (
          (and-eq-true_iff _ _).1 (le-leb _ _ w.some_state, le-leb _ _ w.few_states),
          (and-eq-true_iff _ _).1 (le-leb _ _ w.some_symbol, le-leb _ _ w.few_symbols),
        ),
        lt-ltb _ _ ((below_says s f).1 w.finals_below),
      ),
)

-- what denies a part of it fails the test
pub not_fit : (s a f : ℕ) → (NumbersFit s a f → ⊥) → false ≡ numbers_fit s a f
not_fit s a f h = sym (fails_of (numbers_fit s a f) (λ e. h ((numbers_fit_says s a f).0 e)))

-- numbers that pass every test fit
pub fit_all : (s a f : ℕ) → 1 ≤ s → s ≤ 16 → 1 ≤ a → a ≤ 16 → f < 2 ^ s → numbers_fit s a f ≡ true
fit_all s a f s₁ s₂ a₁ a₂ h = simp (le-leb 1 s s₁, le-leb s 16 s₂, le-leb 1 a a₁, le-leb a 16 a₂, lt-ltb f (2 ^ s) h)

-- past the limits of S and A the final set decides
pub fit_rest : (s a f : ℕ) → 1 ≤ s → s ≤ 16 → 1 ≤ a → a ≤ 16 → eqb (f / 2 ^ s) 0 ≡ numbers_fit s a f
fit_rest s a f s₁ s₂ a₁ a₂ =
    test_ext (eqb (f / 2 ^ s) 0) (numbers_fit s a f)
    (λ e. fit_all s a f s₁ s₂ a₁ a₂ ((shr_zero_says s f).0 (eqb-true (f / 2 ^ s) 0 e)))
    (λ e. eq-eqb (f / 2 ^ s) 0 ((shr_zero_says s f).1 ((below_says s f).1 ((numbers_fit_says s a f).0 e).finals_below)))

-- `well_formed` says `WellFormed`
pub well_formed_says : WellFormedSays
unfolding well_formed
well_formed_says m = (
  λ h.
      let both = (and-eq-true_iff (numbers_fit m.states m.symbols m.finals) _).0 h in
      let fit = (numbers_fit_says m.states m.symbols m.finals).0 both.0 in
      record {
        some_state = fit.some_state;
        few_states = fit.few_states;
        some_symbol = fit.some_symbol;
        few_symbols = fit.few_symbols;
        next_below = (cells_says m.table m.states m.symbols).0 both.1;
        finals_below = fit.finals_below;
      },
  λ w.
      (and-eq-true_iff (numbers_fit m.states m.symbols m.finals) _).1 (
        (numbers_fit_says m.states m.symbols m.finals).1 (record {
          some_state = w.some_state;
          few_states = w.few_states;
          some_symbol = w.some_symbol;
          few_symbols = w.few_symbols;
          finals_below = w.finals_below;
        }),
        (cells_says m.table m.states m.symbols).1 w.next_below,
      ),
)

-- what denies a part of `WellFormed` fails the test
pub not_well_formed : (m : Automaton) → (WellFormed m → ⊥) → false ≡ well_formed m
not_well_formed m h = sym (fails_of (well_formed m) (λ e. h ((well_formed_says m).0 e)))

-- with numbers that fit, a rule is one when its cells are below S
pub well_formed_rest : (t : List (List ℕ)) (s a f : ℕ) → numbers_fit s a f ≡ true → well_formed (automaton_of t s a f) ≡ cells_below t s a
unfolding well_formed
well_formed_rest t s a f e = ap (λ (b : Bool). b && cells_below t s a) e

-- to differ past S or A alone goes both ways
pub same_rule_sym : {m n : Automaton} → SameRule m n → SameRule n m
same_rule_sym e =
    record {
      states = sym e.states;
      symbols = sym e.symbols;
      finals = sym e.finals;
      cells = λ q a hq ha. sym (e.cells q a (omega arith) (omega arith));
    }

-- of two rules that differ past S or A alone, one is well formed when the other is
same_rule_carries : {m n : Automaton} → SameRule m n → WellFormed m → WellFormed n
same_rule_carries {m} {n} e w =
    record {
      some_state = omega arith;
      few_states = omega arith;
      some_symbol = omega arith;
      few_symbols = omega arith;
      next_below = λ q a hq ha.
          let q_in : q < m.states = omega arith in
          let a_in : a < m.symbols = omega arith in
          omega (arith, e.cells q a q_in a_in, w.next_below q a q_in a_in);
      finals_below = λ q h. omega (arith, w.finals_below q (ap (λ (f : ℕ). has f q) e.finals ∙ h));
    }

-- the test looks at no cell past S or A
pub well_formed_same : TestsNoOtherCell
well_formed_same m n e =
    test_ext _ _ (λ h. (well_formed_says n).1 (same_rule_carries e ((well_formed_says m).0 h)))
    (λ h. (well_formed_says m).1 (same_rule_carries (same_rule_sym e) ((well_formed_says n).0 h)))
