-- An expression has one rule at most, and none where more than 16 states are met.
-- Why: lists of events that lead to one state of the one rule lead to one of the other; by induction on the numbers, as each is first met in the
-- same cell, that state has the same number.
-- Assumes nothing.
use mathlib.Core.Path.{◌≡◌, refl, sym, ap, ◌∙◌}
use mathlib.Core.Logic.{◌≢◌, by_cases}
use mathlib.Core.Bool.{true, true≢false}
use mathlib.Core.List.{List, [], ◌∷◌, ◌++◌}
use Prim.Native.Nat.{ℕ, zero, suc, ◌+◌, ◌*◌, ◌≤◌, ◌<◌}
use native.Mathlib.Decide.{dec_lt}
use native.Mathlib.Omega.{arith}
use Rattle.laws.specs.Bits.{has}
use Rattle.laws.proofs.Bits.{same_set}
use Rattle.laws.proofs.Tests.{test_ext}
use Rattle.automaton.specs.Automaton.{Automaton, next, final, SameRule}
use Rattle.jobfile.specs.RuleLines.{trimmed}
use Rattle.jobfile.proofs.RuleLinesLaws.{trimmed_exact}
use Rattle.expression.specs.Expression.{Expr}
use Rattle.expression.specs.Positions.{Events, no_event, event}
use Rattle.expressionrule.specs.ExpressionRule.{run, FirstMet, RuleOf, ManyStates}
use Rattle.expressionrule.proofs.DoneLaws.{events_snoc}
use Rattle.expressionrule.proofs.Pigeonhole.{pigeonhole}

-- the state that one event more leads to
pub run_snoc : (m : Automaton) (q : ℕ) (w : List ℕ) (s : ℕ) → run m q (w ++ (s ∷ [])) ≡ next m (run m q w) s
unfolding run
run_snoc m q [] s = refl
run_snoc m q (x ∷ w) s = run_snoc m (next m q x) w s

-- every list of events leads to a state
pub run_below
    : (a : ℕ) (t : List ℕ) (e : Expr) (m : Automaton) → RuleOf a t e m → (w : List ℕ) (q : ℕ) → Events a w → q < m.states
    → run m q w < m.states
unfolding run
run_below a t e m r [] q x l = l
run_below a t e m r (s ∷ w) q (event b x) l = run_below a t e m r w (next m q s) x (r.below q s l b)

-- a list of events that leads to a state
record Led (a : ℕ) (m : Automaton) (k : ℕ) : Type 0 where
  word : List ℕ
  events : Events a word
  leads : run m 0 word ≡ k

module _ (a : ℕ) (t : List ℕ) (e : Expr) where
  -- one event more
  abbrev further : (m : Automaton) (q s k : ℕ) → s < a → next m q s ≡ k → Led a m q → Led a m k
  further m q s k l h p =
      record {
        word = p.word ++ (s ∷ []);
        events = events_snoc p.events l;
        leads = run_snoc m 0 p.word s ∙ ap (λ (x : ℕ). next m x s) p.leads ∙ h;
      }

  -- every state is led to
  led : (m : Automaton) → RuleOf a t e m → (fuel k : ℕ) → k < fuel → k < m.states → Led a m k
  unfolding run
  led m r zero k l h = absurd (omega (arith, l))
  led m r (suc fuel) zero l h = record { word = []; events = no_event; leads = refl }
  led m r (suc fuel) (suc k) l h =
      let f = r.numbered (suc k) (omega arith) h in
      further m f.row f.column (suc k) f.within f.here
      (led m r fuel f.row (omega (arith, f.above, l)) (omega (arith, f.above, h)))

  module _ (few : a ≤ 16) (m n : Automaton) (r : RuleOf a t e m) (o : RuleOf a t e n) where
    -- a list that leads to a state of the first rule
    way : (k : ℕ) → k < m.states → Led a m k
    way k h = led m r (suc k) k (omega arith) h

    -- lists that lead to one state of the one rule lead to one of the other
    there : (v w : List ℕ) → Events a v → Events a w → run m 0 v ≡ run m 0 w → run n 0 v ≡ run n 0 w
    there v w x y h = (o.states v w x y).1 ((r.states v w x y).0 h)

    back : (v w : List ℕ) → Events a v → Events a w → run n 0 v ≡ run n 0 w → run m 0 v ≡ run m 0 w
    back v w x y h = (r.states v w x y).1 ((o.states v w x y).0 h)

    -- what leads to state k of the first rule leads to state k of the second
    abbrev Alike : ℕ → Type 0
    Alike k = (v : List ℕ) → Events a v → run m 0 v ≡ k → run n 0 v ≡ k

    -- so if one list does
    by_one : (k : ℕ) (p : Led a m k) → run n 0 p.word ≡ k → Alike k
    by_one k p g v x i = there v p.word x p.events (i ∙ sym p.leads) ∙ g

    -- an event from a state that is alike
    stepped : (q s k : ℕ) (l : s < a) (h : next m q s ≡ k) (p : Led a m q) → Alike q → run n 0 (further m q s k l h p).word ≡ next n q s
    stepped q s k l h p alike =
        run_snoc n 0 p.word s ∙ ap (λ (x : ℕ). next n x s) (alike p.word p.events p.leads)

    module _ (k : ℕ) (inside : k < m.states) (low : (j : ℕ) → j < k → Alike j) (f : FirstMet (next m) a k) where
      abbrev p : Led a m f.row
      p = way f.row (omega (arith, f.above, inside))

      -- the list to state k by the cell where it is first met
      abbrev w : Led a m k
      w = further m f.row f.column k f.within f.here p

      -- where it leads in the second rule
      abbrev k' : ℕ
      k' = next n f.row f.column

      leads_there : run n 0 w.word ≡ k'
      leads_there = stepped f.row f.column k f.within f.here p (low f.row f.above)

      -- not to a lower state, which other lists lead to
      not_lower : k' < k → ⊥
      not_lower h =
          let u = way k' (omega (arith, h, inside)) in
          let same = back u.word w.word u.events w.events (low k' h u.word u.events u.leads ∙ sym leads_there) in
          omega (arith, same, u.leads, w.leads, h)

      -- a cell before it leads to a lower state in both
      lower : (q s : ℕ) → s < a → q < k → q * 16 + s < f.row * 16 + f.column → next n q s < k
      lower q s l h d =
          let j = next m q s in
          let below : j < k = f.before q s l d in
          let v = way q (omega (arith, h, inside)) in
          let x = further m q s j l refl v in
          omega (arith, stepped q s j l refl v (low q h), low j below x.word x.events x.leads, below)

      -- not to a higher state, which is met later than state k
      not_higher : 1 ≤ k → k < k' → ⊥
      not_higher some h =
          let row_in : f.row < n.states = row_below in
          let g = o.numbered k some (omega (arith, h, o.below f.row f.column row_in f.within)) in
          by_cases (dec_lt (g.row * 16 + g.column) (f.row * 16 + f.column))
          (λ (d : g.row * 16 + g.column < f.row * 16 + f.column).
          omega (arith, lower g.row g.column g.within g.above d, g.here))
          (λ (d : g.row * 16 + g.column < f.row * 16 + f.column → ⊥).
          by_cases (dec_lt (f.row * 16 + f.column) (g.row * 16 + g.column))
          (λ (c : f.row * 16 + f.column < g.row * 16 + g.column).
          omega (arith, g.before f.row f.column f.within c, h))
          (λ (c : f.row * 16 + f.column < g.row * 16 + g.column → ⊥).
          let rows : f.row ≡ g.row = omega (arith, c, d, f.within, g.within, few) in
          let columns : f.column ≡ g.column = omega (arith, c, d, f.within, g.within, few) in
          omega (arith, ap (λ (q : ℕ). next n q f.column) rows ∙ ap (λ (s : ℕ). next n g.row s) columns ∙ g.here, h)))
        where
          row_below : f.row < n.states
          row_below =
              omega (arith, low f.row f.above p.word p.events p.leads, run_below a t e n o p.word 0 p.events o.some)

      same_number : 1 ≤ k → Alike k
      same_number some = by_one k w (leads_there ∙ is)
        where
          is : k' ≡ k
          is =
              by_cases (dec_lt k' k)
              (λ (h : k' < k). absurd (not_lower h))
              (λ (h : k' < k → ⊥).
              by_cases (dec_lt k k') (λ (g : k < k'). absurd (not_higher some g)) (λ (g : k < k' → ⊥). omega (arith, g, h)))

    -- all states are alike
    alike : (fuel k : ℕ) → k < fuel → k < m.states → Alike k
    unfolding run
    alike zero k l h = absurd (omega (arith, l))
    alike (suc fuel) zero l h = by_one 0 (record { word = []; events = no_event; leads = refl }) refl
    alike (suc fuel) (suc k) l h =
        same_number (suc k) h (λ j b. alike fuel j (omega (arith, b, l)) (omega (arith, b, h))) (r.numbered (suc k) (omega arith) h)
        (omega arith)

    all_alike : (k : ℕ) → k < m.states → Alike k
    all_alike k h = alike (suc k) k (omega arith) h

    -- so are the cells
    cells_alike : (q s : ℕ) → q < m.states → s < a → next m q s ≡ next n q s
    cells_alike q s h l =
        let p = way q h in
        let x = further m q s (next m q s) l refl p in
        sym (all_alike (next m q s) (r.below q s h l) x.word x.events x.leads) ∙ stepped q s (next m q s) l refl p (all_alike q h)

    -- the second has no state more
    no_more : n.states ≤ m.states
    no_more =
        by_cases (dec_lt m.states n.states)
        (λ (h : m.states < n.states).
        let g = o.numbered m.states r.some h in
        omega (arith, cells_alike g.row g.column g.above g.within, r.below g.row g.column g.above g.within, g.here))
        (λ (h : m.states < n.states → ⊥). omega (arith, h))

    -- a final state of the first is one of the second
    final_too : (q : ℕ) → final m q ≡ true → final n q ≡ true
    unfolding run
    final_too q h = go (way q (r.finals_below q h)).word (way q (r.finals_below q h)).events (way q (r.finals_below q h)).leads
      where
        go : (w : List ℕ) → Events a w → run m 0 w ≡ q → final n q ≡ true
        go [] x i = absurd (true≢false (sym h ∙ ap (λ (k : ℕ). final m k) (sym i) ∙ r.quiet_start))
        go (s ∷ w) x i =
            ap (λ (k : ℕ). final n k) (sym (all_alike q (r.finals_below q h) (s ∷ w) x i))
            ∙ (o.alarms s w x).1 ((r.alarms s w x).0 (ap (λ (k : ℕ). final m k) i ∙ h))

  -- two rules of one expression are one
  pub one_rule : a ≤ 16 → (m n : Automaton) → RuleOf a t e m → RuleOf a t e n → m ≡ n
  one_rule few m n r o = sym (exact m r same) ∙ exact n o itself
    where
      states : m.states ≡ n.states
      states = omega (arith, no_more few m n r o, no_more few n m o r)

      same : SameRule m n
      same =
          record {
            states = states;
            symbols = r.symbols ∙ sym o.symbols;
            finals = same_set m.finals n.finals (λ q.
                test_ext (has m.finals q) (has n.finals q) (final_too few m n r o q) (final_too few n m o r q));
            cells = λ q s h l. cells_alike few m n r o q s h (omega (arith, l, r.symbols));
          }

      itself : SameRule n n
      itself = record { states = refl; symbols = refl; finals = refl; cells = λ q s h l. refl }

      exact : (x : Automaton) → RuleOf a t e x → SameRule x n → trimmed n ≡ x
      exact x y z =
          trimmed_exact x n y.rows (λ q h. y.columns q h ∙ sym y.symbols) z

-- every state is led to by a list of events
pub led_to
    : (a : ℕ) (t : List ℕ) (e : Expr) (m : Automaton) → RuleOf a t e m → (q : ℕ) → q < m.states
    → (w : List ℕ) × Events a w × (run m 0 w ≡ q)
led_to a t e m r q h = let p = led a t e m r (suc q) q (omega arith) h in (p.word, p.events, p.leads)

-- seventeen lists of different states have no rule of at most 16
pub many_no_rule : (a : ℕ) (t : List ℕ) (e : Expr) (m : Automaton) → ManyStates a t e → RuleOf a t e m → ⊥
many_no_rule a t e m x r =
    pigeonhole 16 (λ i h. run m 0 (x.word i h))
    (λ i h. omega (arith, run_below a t e m r (x.word i h) 0 (x.events i h) r.some, r.few))
    (λ i j h k s. x.differ i j h k ((r.states (x.word i h) (x.word j k) (x.events i h) (x.events j k)).0 s))
