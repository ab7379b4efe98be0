-- What the call for rule rows answers: each refusal in its order, and the one rule of rows that name every pair just once.
-- Assumes nothing.
use mathlib.Core.Path.{◌≡◌, refl, sym, ap, ◌∙◌, subst}
use mathlib.Core.Logic.{◌≢◌, ◌⊎◌, inl, inr, by_cases}
use mathlib.Core.Bool.{Bool, true, false, cond, ◌&&◌, and-eq-true_iff, true≢false}
use mathlib.Core.List.{List, []}
use Prim.Native.Nat.{ℕ, ◌≤◌, ◌<◌}
use native.Mathlib.Decide.{dec_le, dec_lt}
use native.Mathlib.Omega.{arith}
use lib.Dec.{eqb, leb}
use lib.ListN.{length, get_or}
use borrow.Author.Tests.{le-leb, leb-true, leb-false, eq-eqb, ne_eqb, eqb-true, eqb-false}
use Rattle.laws.specs.Bounded.{tab}
use Rattle.laws.proofs.Bounded.{length_tab, get_d_tab, fill_done}
use Rattle.laws.specs.Bits.{has}
use Rattle.laws.proofs.Bits.{some_past}
use Rattle.laws.proofs.Tests.{fails_of, passes_or_fails}
use Rattle.automaton.specs.Automaton.{Automaton, automaton_of, cell, next, numbers_fit, NumbersFit}
use Rattle.automaton.specs.Table.{rule_size}
use Rattle.automaton.specs.Made.{Made, makes, refuses}
use Rattle.automaton.proofs.AutomatonLaws.{numbers_fit_says}
use Rattle.rulerows.specs.declared.rows.Row.{Row}
use Rattle.rulerows.specs.RuleRows.{Rows, rows, not_rows, rows_in, named_by, next_in, twice, missing, automaton_of_rows, max_text, made_of_rows, rule_from, rows_made}
use Rattle.rulerows.specs.RowsSay.{Names, row_at, Outside, too_long, no_state, many_states, no_symbol, many_symbols, final_past, no_row, row_outside, Ready, Twice, Unnamed, RowsRefused, other_length, outside, twice as two_rows, unnamed, Once, RuleOfRows, MakesRule, RowsAnswerSays}
use Rattle.rulerows.proofs.RowsLaws.{AllWithin, count_some, next_only, pair_twice, pair_missing, twice_says, missing_says}
use Rattle.rulerows.proofs.TextLaws.{RowFault, none_there, not_within, rows_says, rows_read_lem, text_within, fault_found, fault_not_rows}

-- ---- the rule of the rows

module _ (s a f : ℕ) (rs : List Row) where
  -- a pair of the rule has at most one row where no pair has two
  few_rows : twice s a rs ≡ false → (q c : ℕ) → q < s → c < a → named_by rs q c ≤ 1
  few_rows once q c h k =
      by_cases (dec_le 2 (named_by rs q c))
      (λ (two : 2 ≤ named_by rs q c). absurd (true≢false (sym (pair_twice s a rs q c h k two) ∙ once)))
      (λ few. omega arith)

  -- the cells of the rule
  pub rule_cell : (q c : ℕ) → q < s → c < a → next (automaton_of_rows s a f rs) q c ≡ next_in rs q c
  unfolding automaton_of_rows cell
  rule_cell q c h k =
      ap (λ (r : List ℕ). get_or r c 0) (get_d_tab s (λ (q : ℕ). tab a (λ c. next_in rs q c)) q [] h) ∙ get_d_tab a (λ (c : ℕ). next_in rs q c) c 0 k

  -- it is the rule of the rows
  pub rule_is : twice s a rs ≡ false → RuleOfRows s a f rs (automaton_of_rows s a f rs)
  unfolding automaton_of_rows
  rule_is once =
      record {
        states = refl;
        symbols = refl;
        finals = refl;
        rows = length_tab s (λ (q : ℕ). tab a (λ c. next_in rs q c));
        columns = λ q h.
            ap length (get_d_tab s (λ (q : ℕ). tab a (λ c. next_in rs q c)) q [] h) ∙ length_tab a (λ (c : ℕ). next_in rs q c);
        cells = λ q c i h k l n. rule_cell q c h k ∙ next_only q c rs i l n (few_rows once q c h k);
      }

  -- and no other is
  rule_only : (m : Automaton) → twice s a rs ≡ false → Once s a rs → RuleOfRows s a f rs m → m ≡ automaton_of_rows s a f rs
  unfolding automaton_of_rows cell
  rule_only m once each is =
      let row : ℕ → List ℕ = λ q. tab a (λ c. next_in rs q c) in
      let table : m.table ≡ tab s row =
      fill_done m.table s row [] is.rows
      (λ q h.
      fill_done (get_or m.table q []) a (λ c. next_in rs q c) 0 (is.columns q h)
      (λ c k.
      let (i, l, n) = each.some q c h k in is.cells q c i h k l n ∙ sym (next_only q c rs i l n (few_rows once q c h k)))) in
      let numbers : automaton_of m.table m.states m.symbols m.finals ≡ automaton_of m.table s a f =
      rw (is.states, is.symbols, is.finals) in
      numbers ∙ ap (λ (t : List (List ℕ)). automaton_of t s a f) table

  module _ (within : AllWithin s a rs) where
    -- rows of which no two name one pair
    apart : twice s a rs ≡ false → (i j q c : ℕ) → i < j → j < length rs → Names (row_at rs i) q c → Names (row_at rs j) q c → ⊥
    apart once i j q c h l n m =
        true≢false
        (sym ((twice_says s a rs within).1 (record {
          one = i;
          other = j;
          state = q;
          symbol = c;
          after = h;
          last = l;
          first_names = n;
          other_names = m;
        }))
        ∙ once)

    -- and every pair has a row
    pub each_once : twice s a rs ≡ false → missing s a rs ≡ false → Once s a rs
    each_once once all =
        record {
          some = λ q c h k.
              by_cases (dec_le 1 (named_by rs q c))
              (λ (some : 1 ≤ named_by rs q c). count_some q c rs some)
              (λ none. absurd (true≢false (sym (pair_missing s a rs q c h k (omega arith)) ∙ all)));
          only = λ i j q c l l' n m.
              by_cases (dec_lt i j)
              (λ (h : i < j). absurd (apart once i j q c h l' n m))
              (λ not_before.
              by_cases (dec_lt j i)
              (λ (h : j < i). absurd (apart once j i q c h l m n))
              (λ not_after. omega arith));
        }

    -- the other way
    once_not_twice : Once s a rs → twice s a rs ≡ false
    once_not_twice each =
        fails_of (twice s a rs)
        (λ e.
        let t = (twice_says s a rs within).0 e in
        omega (arith, t.after, each.only t.one t.other t.state t.symbol (omega (arith, t.after, t.last)) t.last t.first_names t.other_names))

  once_not_missing : Once s a rs → missing s a rs ≡ false
  once_not_missing each =
      fails_of (missing s a rs)
      (λ e.
      let u = (missing_says s a rs).0 e in
      let (i, l, n) = each.some u.state u.symbol u.state_below u.symbol_below in u.no_row i l n)

-- ---- the answer

-- no answer is both
made_or_refused : {k : ℕ} {m : Automaton} → refuses k ≡ makes m → ⊥
made_or_refused e = let z : ◌≡◌ {A = ℕ} 0 1 = cc e in omega arith

module _ (text : List ℕ) (s a f : ℕ) where
  -- the test of 17 that looks at no row
  abbrev fits : Bool
  fits = leb (length text) max_text && numbers_fit s a f

  -- past it
  from_rows : (b : Bool) → fits ≡ b → rule_from text s a f ≡ cond b (made_of_rows s a f (rows_in s a text)) (refuses 17)
  unfolding rule_from
  from_rows b e = ap (λ (t : Bool). cond t (made_of_rows s a f (rows_in s a text)) (refuses 17)) e

  -- what 17 turns back
  pub outside_made : Outside text s a f → rule_from text s a f ≡ refuses 17
  outside_made o = go o
    where
      unfit : (NumbersFit s a f → ⊥) → rule_from text s a f ≡ refuses 17
      unfit none =
          from_rows false (fails_of fits (λ e. none ((numbers_fit_says s a f).0 ((and-eq-true_iff (leb (length text) max_text) (numbers_fit s a f)).0 e).1)))

      fault : RowFault s a text → rule_from text s a f ≡ refuses 17
      fault bad = both (passes_or_fails fits)
        where
          both : (fits ≡ true) ⊎ (fits ≡ false) → rule_from text s a f ≡ refuses 17
          both (inl e) = from_rows true e ∙ ap (made_of_rows s a f) (fault_not_rows s a text bad)
          both (inr e) = from_rows false e

      go : Outside text s a f → rule_from text s a f ≡ refuses 17
      go (too_long l) =
          from_rows false
          (fails_of fits (λ e. omega (arith, l, leb-true (length text) max_text ((and-eq-true_iff (leb (length text) max_text) (numbers_fit s a f)).0 e).0)))
      go (no_state e) = unfit (λ w. omega (arith, e, w.some_state))
      go (many_states l) = unfit (λ w. omega (arith, l, w.few_states))
      go (no_symbol e) = unfit (λ w. omega (arith, e, w.some_symbol))
      go (many_symbols l) = unfit (λ w. omega (arith, l, w.few_symbols))
      go (final_past q h past) = unfit (λ w. omega (arith, past, w.finals_below q h))
      go (no_row i l none) = fault (none_there i l none)
      go (row_outside i ns l bad) = fault (not_within i ns l bad)

  module _ {rs : List Row} (ready : Ready text s a f rs) where
    -- its rows are within their limits
    ready_within : AllWithin s a rs
    ready_within = text_within s a text rs ready.rows

    -- past 17
    pub ready_made : rule_from text s a f ≡ made_of_rows s a f (rows rs)
    ready_made =
        from_rows true
        ((and-eq-true_iff (leb (length text) max_text) (numbers_fit s a f)).1
        (le-leb (length text) max_text ready.short, (numbers_fit_says s a f).1 ready.numbers))
        ∙ ap (made_of_rows s a f) (rows_read_lem s a text rs ready.rows)

    -- 18
    twice_made : Twice rs → rule_from text s a f ≡ refuses 18
    twice_made t = ready_made ∙ simp ((twice_says s a rs ready_within).1 t)

    -- 19
    unnamed_made : (Twice rs → ⊥) → Unnamed s a rs → rule_from text s a f ≡ refuses 19
    unnamed_made once u =
        ready_made
        ∙ simp (fails_of (twice s a rs) (λ e. once ((twice_says s a rs ready_within).0 e)), (missing_says s a rs).1 u)

    -- the rule
    once_made : (m : Automaton) → Once s a rs → RuleOfRows s a f rs m → rule_from text s a f ≡ makes m
    once_made m each is =
        let once = once_not_twice s a f rs ready_within each in
        let made : made_of_rows s a f (rows rs) ≡ makes (automaton_of_rows s a f rs) = simp (once, once_not_missing s a f rs each) in
        ready_made ∙ made ∙ ap makes (sym (rule_only s a f rs m once each is))

  -- why S, A or the final set do not fit
  unfit_why : numbers_fit s a f ≡ false → Outside text s a f
  unfit_why e =
      by_cases (dec_le 1 s)
      (λ (s₁ : 1 ≤ s).
      by_cases (dec_le s 16)
      (λ (s₂ : s ≤ 16).
      by_cases (dec_le 1 a)
      (λ (a₁ : 1 ≤ a).
      by_cases (dec_le a 16)
      (λ (a₂ : a ≤ 16).
      let (q, h, past) = final_why s₁ s₂ a₁ a₂ in final_past q h past)
      (λ h. many_symbols (omega arith)))
      (λ h. no_symbol (omega arith)))
      (λ h. many_states (omega arith)))
      (λ h. no_state (omega arith))
    where
      final_why : 1 ≤ s → s ≤ 16 → 1 ≤ a → a ≤ 16 → (q : ℕ) × (has f q ≡ true) × (s ≤ q)
      final_why s₁ s₂ a₁ a₂ =
          some_past s f
          (λ all.
          true≢false
          (sym ((numbers_fit_says s a f).1 (record {
            some_state = s₁;
            few_states = s₂;
            some_symbol = a₁;
            few_symbols = a₂;
            finals_below = all;
          }))
          ∙ e))

  module _ (rule : ℕ) where
    -- what comes out is a rule that the text makes, or a refusal that it deserves
    data Outcome : Made → Type 0 where
      one_rule : {m : Automaton} → MakesRule text s a f rule m → Outcome (makes m)
      one_refusal : {k : ℕ} → RowsRefused text s a f rule k → Outcome (refuses k)

    -- of rows
    rows_outcome
        : (rs : List Row) → rule ≡ rule_size → Ready text s a f rs → (b : Bool) → twice s a rs ≡ b → (d : Bool) → missing s a rs ≡ d
        → Outcome (cond b (refuses 18) (cond d (refuses 19) (makes (automaton_of_rows s a f rs))))
    rows_outcome rs same ready true t d u = one_refusal (two_rows same ready ((twice_says s a rs (ready_within ready)).0 t))
    rows_outcome rs same ready false t true u =
        one_refusal (unnamed same ready (λ w. true≢false (sym ((twice_says s a rs (ready_within ready)).1 w) ∙ t)) ((missing_says s a rs).0 u))
    rows_outcome rs same ready false t false u =
        one_rule (record {
          length = same;
          rows = rs;
          ready = ready;
          once = each_once s a f rs (ready_within ready) t u;
          is = rule_is s a f rs t;
        })

    -- of a text
    text_outcome
        : rule ≡ rule_size → length text ≤ max_text → NumbersFit s a f → (x : Rows) → rows_in s a text ≡ x → Outcome (made_of_rows s a f x)
    text_outcome same short numbers (rows rs) e =
        rows_outcome rs same (record { short = short; numbers = numbers; rows = (rows_says s a text rs).0 e }) (twice s a rs) refl (missing s a rs) refl
    text_outcome same short numbers not_rows e = one_refusal (outside same (why (fault_found s a text e)))
      where
        why : RowFault s a text → Outside text s a f
        why (none_there i l none) = no_row i l none
        why (not_within i ns l bad) = row_outside i ns l bad

    -- of a call
    call_outcome
        : (b : Bool) → eqb rule rule_size ≡ b → (c : Bool) → leb (length text) max_text ≡ c → (d : Bool) → numbers_fit s a f ≡ d
        → Outcome (cond b (cond (c && d) (made_of_rows s a f (rows_in s a text)) (refuses 17)) (refuses 13))
    call_outcome false e c l d n = one_refusal (other_length (eqb-false rule rule_size e))
    call_outcome true e false l d n =
        one_refusal (outside (eqb-true rule rule_size e) (too_long (omega (arith, leb-false (length text) max_text l))))
    call_outcome true e true l false n = one_refusal (outside (eqb-true rule rule_size e) (unfit_why n))
    call_outcome true e true l true n =
        text_outcome (eqb-true rule rule_size e) (leb-true (length text) max_text l) ((numbers_fit_says s a f).0 n) (rows_in s a text) refl

    outcome : Outcome (rows_made text s a f rule)
    unfolding rule_from
    outcome = call_outcome (eqb rule rule_size) refl (leb (length text) max_text) refl (numbers_fit s a f) refl

    -- with a buffer of its length
    with_room : rule ≡ rule_size → rows_made text s a f rule ≡ rule_from text s a f
    with_room same = simp (eq-eqb rule rule_size same)

    -- what deserves a refusal gets it
    refused_made : (k : ℕ) → RowsRefused text s a f rule k → rows_made text s a f rule ≡ refuses k
    refused_made k (other_length other) = simp (ne_eqb rule rule_size other)
    refused_made k (outside same o) = with_room same ∙ outside_made o
    refused_made k (two_rows same ready t) = with_room same ∙ twice_made ready t
    refused_made k (unnamed same ready once u) = with_room same ∙ unnamed_made ready once u

    -- and what makes a rule makes it
    rule_made : (m : Automaton) → MakesRule text s a f rule m → rows_made text s a f rule ≡ makes m
    rule_made m w = with_room w.length ∙ once_made w.ready m w.once w.is

    -- and no other
    made_refused : (k : ℕ) → rows_made text s a f rule ≡ refuses k → RowsRefused text s a f rule k
    made_refused k e = go (subst Outcome e outcome)
      where
        go : Outcome (refuses k) → RowsRefused text s a f rule k
        go (one_refusal r) = r

    made_rule : (m : Automaton) → rows_made text s a f rule ≡ makes m → MakesRule text s a f rule m
    made_rule m e = go (subst Outcome e outcome)
      where
        go : Outcome (makes m) → MakesRule text s a f rule m
        go (one_rule w) = w

    -- one or the other
    one_of : {x : Made} → Outcome x → ((m : Automaton) × MakesRule text s a f rule m) ⊎ ((k : ℕ) × RowsRefused text s a f rule k)
    one_of (one_rule {m} w) = inl (m, w)
    one_of (one_refusal {k} r) = inr (k, r)

-- the refusals and the rule
pub rows_answer_says : RowsAnswerSays
rows_answer_says =
    record {
      refused = λ text s a f rule k. (made_refused text s a f rule k, refused_made text s a f rule k);
      made = λ text s a f rule m. (made_rule text s a f rule m, rule_made text s a f rule m);
      every = λ text s a f rule. one_of text s a f rule (outcome text s a f rule);
    }
