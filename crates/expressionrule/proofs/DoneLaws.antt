-- The table that the search leaves is the rule of the expression, and a seventeenth state shows seventeen lists of events of different states.
-- Assumes nothing.
use mathlib.Core.Path.{◌≡◌, refl, sym, ap, subst, ◌∙◌}
use mathlib.Core.Logic.{by_cases, ◌≢◌}
use mathlib.Core.List.{List, [], ◌∷◌, ◌++◌}
use Prim.Native.Nat.{ℕ, zero, suc, ◌+◌, ◌*◌, ◌≤◌, ◌<◌}
use native.Mathlib.Decide.{ℕ_discrete}
use native.Mathlib.Omega.{arith}
use lib.ListN.{length, get_or}
use Rattle.laws.specs.Bits.{has}
use Rattle.laws.specs.Bounded.{tab}
use Rattle.laws.proofs.Bounded.{get_d_tab, length_tab}
use Rattle.automaton.specs.Automaton.{Automaton, automaton_of, cell}
use Rattle.expression.specs.Expression.{Expr}
use Rattle.expression.specs.Grammar.{TextOf}
use Rattle.expression.specs.Masks.{last, start_set, next_set, aim, IsSet}
use Rattle.expression.specs.Positions.{Events, no_event, event, SameState}
use Rattle.expressionrule.specs.ExpressionRule.{FirstMet, RuleOf, ManyStates}
use Rattle.expressionrule.specs.Numbering.{cell_at, Growing, FinalsOf, TooMany}
use Rattle.expressionrule.proofs.RuleLaws.{Numbered, numbered_rule}
use Rattle.expression.proofs.SetLaws.{start_set_lem, next_set_lem}
use Rattle.expression.proofs.Reach.{snoc_not_nil}
use Rattle.laws.proofs.Bits.{same_set}
use Rattle.laws.proofs.Tests.{test_ext}
use lib.Seq.{get_or-append_seam}
use lib.ListN.{get_or-append}

-- the rule of the cells: so many rows of A cells
unfoldable pub table_of_cells : List ℕ → ℕ → ℕ → List (List ℕ)
unfolding tab
table_of_cells cells count a = tab count (λ q. tab a (λ s. cell_at cells q s))

abbrev pub rule_of_cells : List ℕ → ℕ → ℕ → ℕ → Automaton
rule_of_cells cells count a finals = automaton_of (table_of_cells cells count a) count a finals

pub cells_same
    : (cells : List ℕ) (count a q s : ℕ) → q < count → s < a → cell (table_of_cells cells count a) q s ≡ cell_at cells q s
unfolding cell table_of_cells
cells_same cells count a q s h l =
    ap (λ (r : List ℕ). get_or r s 0) (get_d_tab count (λ (k : ℕ). tab a (λ (j : ℕ). cell_at cells k j)) q [] h)
    ∙ get_d_tab a (λ (j : ℕ). cell_at cells q j) s 0 l

rows_are : (cells : List ℕ) (count a : ℕ) → length (table_of_cells cells count a) ≡ count
unfolding table_of_cells
rows_are cells count a = length_tab count (λ (q : ℕ). tab a (λ (s : ℕ). cell_at cells q s))

columns_are : (cells : List ℕ) (count a q : ℕ) → q < count → length (get_or (table_of_cells cells count a) q []) ≡ a
unfolding table_of_cells
columns_are cells count a q h =
    ap length (get_d_tab count (λ (k : ℕ). tab a (λ (j : ℕ). cell_at cells k j)) q [] h) ∙ length_tab a (λ (s : ℕ). cell_at cells q s)

module _ (a : ℕ) (t : List ℕ) (e : Expr) (sets cells : List ℕ) (count finals : ℕ) (symbols : a ≤ 16)
    (g : Growing a t e sets cells count (count * 16)) (f : FinalsOf (last e) sets count finals) where
  same : (q s : ℕ) → q < count → s < a → cell (table_of_cells cells count a) q s ≡ cell_at cells q s
  same = cells_same cells count a

  from_set
      : (q s : ℕ) → 1 ≤ q → q < count → s < a
      → get_or sets (cell (table_of_cells cells count a) q s) 0 ≡ next_set t e (get_or sets q 0) s
  unfolding aim
  from_set zero s l h k = absurd (omega (arith, l))
  from_set (suc q) s l h k =
      ap (λ (c : ℕ). get_or sets c 0) (same (suc q) s h k) ∙ g.linked.leads (suc q) s k (omega (arith, h, k, symbols))

  from_start : (s : ℕ) → s < a → get_or sets (cell (table_of_cells cells count a) 0 s) 0 ≡ start_set t e s
  unfolding aim
  from_start s k =
      ap (λ (c : ℕ). get_or sets c 0) (same 0 s g.linked.some k)
      ∙ g.linked.leads 0 s k (omega (arith, k, symbols, g.linked.some))

  met_in : (k : ℕ) → 1 ≤ k → k < count → FirstMet (cell (table_of_cells cells count a)) a k
  met_in k l h =
      let x = (g.met k l h).first in
      record {
        row = x.row;
        column = x.column;
        above = x.above;
        within = x.within;
        here = same x.row x.column (omega (arith, x.above, h)) x.within ∙ x.here;
        before = λ q s b d.
            omega (arith, same q s (omega (arith, d, x.above, h, x.within, symbols, b)) b, x.before q s b d);
      }

  -- it is numbered
  done_numbered : Numbered a t e (rule_of_cells cells count a finals) sets
  done_numbered =
      record {
        symbols = refl;
        some = g.linked.some;
        few = g.linked.few;
        from_start = from_start;
        from_set = from_set;
        not_start = λ q s h k. omega (arith, same q s h k, g.linked.low q s k (omega (arith, h, k, symbols)));
        below = λ q s h k. omega (arith, same q s h k, g.linked.high q s k (omega (arith, h, k, symbols)));
        once = g.linked.once;
        finals = f.ends;
        quiet_start = f.start;
        numbered = met_in;
        finals_below = f.below;
        rows = rows_are cells count a;
        columns = columns_are cells count a;
      }

  -- so it is the rule of the expression
  pub done_rule : TextOf a t e → RuleOf a t e (rule_of_cells cells count a finals)
  done_rule spelt = numbered_rule a t e (rule_of_cells cells count a finals) sets spelt done_numbered

-- ---- a seventeenth state

pub events_snoc : {a : ℕ} {w : List ℕ} {s : ℕ} → Events a w → s < a → Events a (w ++ (s ∷ []))
events_snoc no_event h = event h no_event
events_snoc (event l r) h = event l (events_snoc r h)

-- a list of events that leads to state k, whose set is x
record Access (a : ℕ) (t : List ℕ) (e : Expr) (k x : ℕ) : Type 0 where
  word : List ℕ
  events : Events a word
  at_start : k ≡ 0 → word ≡ []
  later : 1 ≤ k → word ≢ []
  is_set : 1 ≤ k → IsSet t e word x

module _ (a : ℕ) (t : List ℕ) (e : Expr) (spelt : TextOf a t e) (sets : List ℕ) where
  -- one event more leads to the aim
  extended
      : (q s : ℕ) (w : List ℕ) → (q ≡ 0 → w ≡ []) → (1 ≤ q → w ≢ []) → (1 ≤ q → IsSet t e w (get_or sets q 0))
      → IsSet t e (w ++ (s ∷ [])) (aim t e sets q s)
  unfolding aim
  extended zero s w z l i = subst (λ (u : List ℕ). IsSet t e (u ++ (s ∷ [])) (start_set t e s)) (sym (z refl)) (start_set_lem a t e spelt s)
  extended (suc q) s [] z l i = absurd (l (omega arith) refl)
  extended (suc q) s (x ∷ w) z l i = next_set_lem a t e spelt x w (get_or sets (suc q) 0) s (i (omega arith))

  further : (q s k x : ℕ) → 1 ≤ k → s < a → Access a t e q (get_or sets q 0) → x ≡ aim t e sets q s → Access a t e k x
  further q s k x l h c y =
      record {
        word = c.word ++ (s ∷ []);
        events = events_snoc c.events h;
        at_start = λ z. absurd (omega (arith, z, l));
        later = λ _. snoc_not_nil c.word s;
        is_set = λ _.
            subst (λ (u : ℕ). IsSet t e (c.word ++ (s ∷ [])) u) (sym y) (extended q s c.word c.at_start c.later c.is_set);
      }

  -- every state found is led to
  access : (cells : List ℕ) (count n fuel k : ℕ) → Growing a t e sets cells count n → k < fuel → k < count → Access a t e k (get_or sets k 0)
  access cells count n zero k g l h = absurd (omega (arith, l))
  access cells count n (suc fuel) zero g l h =
      record { word = []; events = no_event; at_start = λ _. refl; later = λ z. absurd (omega (arith, z)); is_set = λ z. absurd (omega (arith, z)) }
  access cells count n (suc fuel) (suc k) g l h =
      let m = g.met (suc k) (omega arith) h in
      let f = m.first in
      further f.row f.column (suc k) (get_or sets (suc k) 0) (omega arith) f.within
      (access cells count n fuel f.row g (omega (arith, f.above, l)) (omega (arith, f.above, h)))
      (ap (λ (c : ℕ). get_or sets c 0) (sym f.here) ∙ g.linked.leads f.row f.column f.within m.done)

-- lists of one state have one set
one_set : (t : List ℕ) (e : Expr) (v w : List ℕ) (k l : ℕ) → IsSet t e v k → IsSet t e w l → SameState t e v w → k ≡ l
one_set t e v w k l x y z =
    same_set k l (λ p. test_ext (has k p) (has l p) (λ h. (y p).1 ((z.positions p).0 ((x p).0 h))) (λ h. (x p).1 ((z.positions p).1 ((y p).0 h))))

-- states with different sets are different
differs
    : (a : ℕ) (t : List ℕ) (e : Expr) (i j x y : ℕ) (p : Access a t e i x) (q : Access a t e j y)
    → (1 ≤ i → 1 ≤ j → x ≡ y → i ≡ j) → SameState t e p.word q.word → i ≡ j
differs a t e zero zero x y p q d s = refl
differs a t e zero (suc j) x y p q d s = absurd (q.later (omega arith) (s.start.0 (p.at_start refl)))
differs a t e (suc i) zero x y p q d s = absurd (p.later (omega arith) (s.start.1 (q.at_start refl)))
differs a t e (suc i) (suc j) x y p q d s =
    d (omega arith) (omega arith) (one_set t e p.word q.word x y (p.is_set (omega arith)) (q.is_set (omega arith)) s)

-- a seventeenth state shows seventeen lists
pub many_states : (a : ℕ) (t : List ℕ) (e : Expr) → TextOf a t e → TooMany a t e → ManyStates a t e
many_states a t e spelt m =
    record {
      word = λ i h. (at i h).word;
      events = λ i h. (at i h).events;
      differ = λ i j h k s. differs a t e i j (set_at i) (set_at j) (at i h) (at j k) (once i j h k) s;
    }
  where
    x : ℕ
    x = aim t e m.sets m.row m.column

    set_at : ℕ → ℕ
    set_at i = get_or (m.sets ++ (x ∷ [])) i 0

    low : (i : ℕ) → i < 16 → set_at i ≡ get_or m.sets i 0
    low i h = get_or-append m.sets (x ∷ []) 0 i (omega (arith, h, m.grown.linked.long))

    top : set_at 16 ≡ x
    top = ap (λ (n : ℕ). get_or (m.sets ++ (x ∷ [])) n 0) (sym m.grown.linked.long) ∙ get_or-append_seam m.sets x [] 0

    row_access : (i : ℕ) → i < 16 → Access a t e i (get_or m.sets i 0)
    row_access i h = access a t e spelt m.sets m.cells 16 (m.row * 16 + m.column) 16 i m.grown h h

    at : (i : ℕ) → i < 17 → Access a t e i (set_at i)
    at i h =
        by_cases (ℕ_discrete i 16)
        (λ (y : i ≡ 16).
        subst (λ (k : ℕ). Access a t e k (set_at k)) (sym y)
        (further a t e spelt m.sets m.row m.column 16 (set_at 16) (omega arith) m.column_in (row_access m.row m.row_in) top))
        (λ (y : i ≢ 16).
        subst (λ (k : ℕ). Access a t e i k) (sym (low i (omega (arith, h, y)))) (row_access i (omega (arith, h, y))))

    once : (i j : ℕ) → i < 17 → j < 17 → 1 ≤ i → 1 ≤ j → set_at i ≡ set_at j → i ≡ j
    once i j h k li lj s =
        by_cases (ℕ_discrete i 16)
        (λ (y : i ≡ 16).
        by_cases (ℕ_discrete j 16)
        (λ (z : j ≡ 16). y ∙ sym z)
        (λ (z : j ≢ 16).
        absurd (m.fresh j lj (omega (arith, k, z)) (sym (low j (omega (arith, k, z))) ∙ sym s ∙ ap set_at y ∙ top))))
        (λ (y : i ≢ 16).
        by_cases (ℕ_discrete j 16)
        (λ (z : j ≡ 16).
        absurd (m.fresh i li (omega (arith, h, y)) (sym (low i (omega (arith, h, y))) ∙ s ∙ ap set_at z ∙ top)))
        (λ (z : j ≢ 16).
        m.grown.linked.once i j li (omega (arith, h, y)) lj (omega (arith, k, z))
        (sym (low i (omega (arith, h, y))) ∙ s ∙ low j (omega (arith, k, z)))))
