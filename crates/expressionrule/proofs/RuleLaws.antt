-- A table over numbered sets is the rule of the expression.
-- Why: the set of the state after a list of events is the set of that list, and different states have different sets.
-- Assumes nothing.
use mathlib.Core.Path.{◌≡◌, refl, sym, ap, subst, ◌∙◌}
use mathlib.Core.Logic.{◌↔◌, ◌≢◌}
use mathlib.Core.Bool.{true, false, true≢false}
use mathlib.Core.List.{List, [], ◌∷◌, ◌++◌, append_assoc, append-nil}
use Prim.Native.Nat.{ℕ, zero, suc, ◌+◌, ◌^◌, ◌≤◌, ◌<◌}
use native.Mathlib.Nat.{pow-suc}
use lib.Count.{count_trailing_zeros}
use Rattle.laws.proofs.Walk.{trailing_member}
use native.Mathlib.Omega.{arith}
use lib.Bits.{bit_and}
use lib.ListN.{length, get_or}
use Rattle.laws.specs.Bits.{has}
use Rattle.laws.proofs.Bits.{same_set, has_empty}
use Rattle.laws.proofs.Tests.{test_ext}
use Rattle.automaton.specs.Automaton.{Automaton, next, final}
use Rattle.expression.specs.Expression.{Expr}
use Rattle.expression.specs.Grammar.{TextOf}
use Rattle.expression.specs.Masks.{last, start_set, next_set, IsSet}
use Rattle.expression.specs.Positions.{Accepts, StandsFor, Events, no_event, event, SameState}
use Rattle.expressionrule.specs.ExpressionRule.{run, FirstMet, RuleOf}
use Rattle.expression.proofs.SetLaws.{start_set_lem, next_set_lem, final_set}

-- the sets of the states but the start, each once, with the cells that lead from one to another
pub record Numbered (a : ℕ) (t : List ℕ) (e : Expr) (m : Automaton) (sets : List ℕ) : Type 0 where
  pub symbols : m.symbols ≡ a
  pub some : 1 ≤ m.states
  pub few : m.states ≤ 16
  pub from_start : (s : ℕ) → s < a → get_or sets (next m 0 s) 0 ≡ start_set t e s
  pub from_set : (q s : ℕ) → 1 ≤ q → q < m.states → s < a → get_or sets (next m q s) 0 ≡ next_set t e (get_or sets q 0) s
  pub not_start : (q s : ℕ) → q < m.states → s < a → 1 ≤ next m q s
  pub below : (q s : ℕ) → q < m.states → s < a → next m q s < m.states
  pub once : (p q : ℕ) → 1 ≤ p → p < m.states → 1 ≤ q → q < m.states → get_or sets p 0 ≡ get_or sets q 0 → p ≡ q
  pub finals : (q : ℕ) → 1 ≤ q → q < m.states → (final m q ≡ true) ↔ (bit_and (get_or sets q 0) (last e) ≢ 0)
  pub quiet_start : final m 0 ≡ false
  pub numbered : (k : ℕ) → 1 ≤ k → k < m.states → FirstMet (next m) a k
  pub finals_below : (q : ℕ) → final m q ≡ true → q < m.states
  pub rows : length m.table ≡ m.states
  pub columns : (q : ℕ) → q < m.states → length (get_or m.table q []) ≡ a

-- a set with a member is not empty, and one that is not empty has a member
member_not_empty : (s p : ℕ) → has s p ≡ true → s ≢ 0
member_not_empty s p h e = true≢false (sym h ∙ ap (λ (n : ℕ). has n p) e ∙ has_empty p)

lt_pow : (n : ℕ) → n < 2 ^ n
lt_pow zero = omega arith
lt_pow (suc n) = omega (arith, lt_pow n, pow-suc 2 n)

some_member : (s : ℕ) → s ≢ 0 → (p : ℕ) × (has s p ≡ true)
some_member s h = (count_trailing_zeros s s, trailing_member s s (omega (arith, h)) (lt_pow s))

-- where a list of events leads
record Leads (a : ℕ) (t : List ℕ) (e : Expr) (m : Automaton) (sets : List ℕ) (w : List ℕ) (q : ℕ) : Type 0 where
  low : 1 ≤ q
  high : q < m.states
  set : IsSet t e w (get_or sets q 0)

is_set_same : (t : List ℕ) (e : Expr) (w : List ℕ) (k l : ℕ) → k ≡ l → IsSet t e w l → IsSet t e w k
is_set_same t e w k l h s = subst (λ (x : ℕ). IsSet t e w x) (sym h) s

module _ (a : ℕ) (t : List ℕ) (e : Expr) (m : Automaton) (sets : List ℕ) (spelt : TextOf a t e) (n : Numbered a t e m sets) where
  -- one event more, and a list of them
  leads_more
      : (x : ℕ) (v : List ℕ) (q s : ℕ) → s < a → Leads a t e m sets (x ∷ v) q → Leads a t e m sets ((x ∷ v) ++ (s ∷ [])) (next m q s)
  leads_more x v q s h l =
      record {
        low = n.not_start q s l.high h;
        high = n.below q s l.high h;
        set = is_set_same t e ((x ∷ v) ++ (s ∷ [])) (get_or sets (next m q s) 0) (next_set t e (get_or sets q 0) s)
            (n.from_set q s l.low l.high h) (next_set_lem a t e spelt x v (get_or sets q 0) s l.set);
      }

  leads_on
      : (x : ℕ) (v w : List ℕ) (q : ℕ) → Events a w → Leads a t e m sets (x ∷ v) q → Leads a t e m sets ((x ∷ v) ++ w) (run m q w)
  unfolding run
  leads_on x v [] q no_event l = subst (λ (y : List ℕ). Leads a t e m sets y q) (sym (append-nil (x ∷ v))) l
  leads_on x v (s ∷ w) q (event h r) l =
      subst (λ (y : List ℕ). Leads a t e m sets y (run m (next m q s) w)) (append_assoc (x ∷ v) (s ∷ []) w)
      (leads_on x (v ++ (s ∷ [])) w (next m q s) r (leads_more x v q s h l))

  leads : (x : ℕ) (w : List ℕ) → Events a (x ∷ w) → Leads a t e m sets (x ∷ w) (run m 0 (x ∷ w))
  unfolding run
  leads x w (event h r) =
      leads_on x [] w (next m 0 x) r (record {
        low = n.not_start 0 x n.some h;
        high = n.below 0 x n.some h;
        set = is_set_same t e (x ∷ []) (get_or sets (next m 0 x) 0) (start_set t e x) (n.from_start x h) (start_set_lem a t e spelt x);
      })

  -- two sets of one state
  same_sets : (v w : List ℕ) (k l : ℕ) → IsSet t e v k → IsSet t e w l → ((p : ℕ) → StandsFor t e v p ↔ StandsFor t e w p) → k ≡ l
  same_sets v w k l x y z =
      same_set k l (λ p. test_ext (has k p) (has l p) (λ h. (y p).1 ((z p).0 ((x p).0 h))) (λ h. (x p).1 ((z p).1 ((y p).0 h))))

  -- equal states are of one set, and the other way
  state_to : (v w : List ℕ) → Events a v → Events a w → run m 0 v ≡ run m 0 w → SameState t e v w
  unfolding run
  state_to [] [] x y h = record { start = (λ i. i, λ i. i); positions = λ p. (λ s. s, λ s. s) }
  state_to [] (c ∷ w) x y h = absurd (omega (arith, h, (leads c w y).low))
  state_to (b ∷ v) [] x y h = absurd (omega (arith, h, (leads b v x).low))
  state_to (b ∷ v) (c ∷ w) x y h =
      record {
        start = (λ i. absurd (cons_not_nil b v i), λ i. absurd (cons_not_nil c w i));
        positions = λ p. (
          λ s. (l.set p).0 (subst (λ (q : ℕ). has (get_or sets q 0) p ≡ true) h ((k.set p).1 s)),
          λ s. (k.set p).0 (subst (λ (q : ℕ). has (get_or sets q 0) p ≡ true) (sym h) ((l.set p).1 s)),
        );
      }
    where
      k : Leads a t e m sets (b ∷ v) (run m 0 (b ∷ v))
      k = leads b v x

      l : Leads a t e m sets (c ∷ w) (run m 0 (c ∷ w))
      l = leads c w y

      cons_not_nil : (z : ℕ) (u : List ℕ) → z ∷ u ≡ [] → ⊥
      cons_not_nil z u i = let j : ◌≡◌ {A = ℕ} 0 1 = cc in omega arith

  state_of : (v w : List ℕ) → Events a v → Events a w → SameState t e v w → run m 0 v ≡ run m 0 w
  unfolding run
  state_of [] [] x y h = refl
  state_of [] (c ∷ w) x y h = absurd (let i = h.start.0 refl in let j : ◌≡◌ {A = ℕ} 0 1 = cc in omega arith)
  state_of (b ∷ v) [] x y h = absurd (let i = h.start.1 refl in let j : ◌≡◌ {A = ℕ} 0 1 = cc in omega arith)
  state_of (b ∷ v) (c ∷ w) x y h =
      let k = leads b v x in
      let l = leads c w y in
      n.once (run m 0 (b ∷ v)) (run m 0 (c ∷ w)) k.low k.high l.low l.high
      (same_sets (b ∷ v) (c ∷ w) (get_or sets (run m 0 (b ∷ v)) 0) (get_or sets (run m 0 (c ∷ w)) 0) k.set l.set h.positions)

  -- the alarms are at the words
  alarm_to : (x : ℕ) (w : List ℕ) → Events a (x ∷ w) → final m (run m 0 (x ∷ w)) ≡ true → Accepts t e (x ∷ w)
  alarm_to x w h f =
      let l = leads x w h in
      let k = get_or sets (run m 0 (x ∷ w)) 0 in
      (final_set a t e spelt x w k l.set).1 (some_member (bit_and k (last e)) ((n.finals (run m 0 (x ∷ w)) l.low l.high).0 f))

  alarm_of : (x : ℕ) (w : List ℕ) → Events a (x ∷ w) → Accepts t e (x ∷ w) → final m (run m 0 (x ∷ w)) ≡ true
  alarm_of x w h f =
      let l = leads x w h in
      let k = get_or sets (run m 0 (x ∷ w)) 0 in
      let p = (final_set a t e spelt x w k l.set).0 f in
      (n.finals (run m 0 (x ∷ w)) l.low l.high).1 (member_not_empty (bit_and k (last e)) p.0 p.1)

  -- the rule of the expression
  pub numbered_rule : RuleOf a t e m
  numbered_rule =
      record {
        symbols = n.symbols;
        some = n.some;
        few = n.few;
        states = λ v w x y. (state_to v w x y, state_of v w x y);
        alarms = λ x w h. (alarm_to x w h, alarm_of x w h);
        quiet_start = n.quiet_start;
        below = n.below;
        numbered = n.numbered;
        finals_below = n.finals_below;
        rows = n.rows;
        columns = n.columns;
      }
