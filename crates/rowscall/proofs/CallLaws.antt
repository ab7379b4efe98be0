-- The ways out of the call for rule rows, in the shape of its code, and its answer by value. Where no row is turned back and no pair has two, a
-- pair without a mark is one without a row, and the marks less one are the rule's bytes: past S or A no row names a pair.
-- Assumes nothing.
use Rattle.std.specs.Prelude.{Result, Ok, Err}
use mathlib.Core.Path.{◌≡◌, refl, sym, ap, ap₂, ◌∙◌, subst}
use mathlib.Core.Logic.{◌⊎◌, inl, inr, by_cases}
use mathlib.Core.Bool.{Bool, true, false, cond, ◌&&◌, and-eq-true_iff, true≢false}
use mathlib.Core.List.{List}
use Prim.Native.Nat.{ℕ, ◌+◌, ◌-◌, ◌*◌, ◌/◌, ◌%◌, ◌≤◌, ◌<◌}
use native.Mathlib.Decide.{dec_le}
use native.Mathlib.Omega.{arith}
use lib.Dec.{eqb, leb}
use lib.ListN.{length, get_or, replicate, length-replicate}
use borrow.Author.Tests.{le-leb, lt-leb, eq-eqb, ne_eqb}
use Rattle.laws.specs.Bounded.{any_below, tab}
use Rattle.laws.proofs.Bounded.{any_cong, tab_cong}
use Rattle.laws.proofs.Tests.{fails_of}
use Rattle.automaton.specs.Automaton.{numbers_fit}
use Rattle.automaton.specs.Table.{rule_size, cell_byte, rule_bytes}
use Rattle.automaton.specs.Made.{Made, makes, refuses, made_after}
use Rattle.automaton.proofs.AutomatonLaws.{numbers_fit_says}
use Rattle.automaton.proofs.RuleBytesLaws.{cell_byte_at, cell_byte_past}
use Rattle.refusal.specs.declared.Refusal.{Refusal}
use Rattle.refusal.specs.Refusal.{status_in}
use Rattle.rulerows.specs.declared.rows.Row.{Row}
use Rattle.rulevalue.specs.declared.WithTable.{WithTable}
use Rattle.rulerows.specs.RuleRows.{Rows, rows, not_rows, rows_in, named_by, next_in, twice, missing, automaton_of_rows, max_text, made_of_rows, rule_from, rows_made, rows_answer, rows_value}
use Rattle.rulerows.specs.Inner.{mark_at, MarksOf, rows_status, RowsTaken}
use Rattle.rulerows.proofs.RowsLaws.{AllWithin, count_some, pair_missing}
use Rattle.rulerows.proofs.TextLaws.{rows_says, text_within}
use Rattle.rulerows.proofs.RowsSays.{rule_cell}

-- ---- marks and rows

-- a pair has no mark exactly where it has no row
mark_test : (n x : ℕ) → eqb (cond (eqb n 0) 0 (x + 1)) 0 ≡ eqb n 0
mark_test n x = go (eqb n 0)
  where
    go : (b : Bool) → eqb (cond b 0 (x + 1)) 0 ≡ b
    go true = refl
    go false = ne_eqb (x + 1) 0 (λ e. omega arith)

-- the next state of a mark
mark_next : (n x : ℕ) → 1 ≤ n → cond (eqb n 0) 0 (x + 1) - 1 ≡ x
mark_next n x some = ap (λ (b : Bool). cond b 0 (x + 1) - 1) (ne_eqb n 0 (λ e. omega arith)) ∙ omega arith

no_mark : (n x : ℕ) → n ≡ 0 → cond (eqb n 0) 0 (x + 1) - 1 ≡ 0
no_mark n x none = ap (λ (b : Bool). cond b 0 (x + 1) - 1) (eq-eqb n 0 none)

module _ (s a f : ℕ) (rs : List Row) (marks : List ℕ) (are : MarksOf rs marks) (s_few : s ≤ 16) (a_few : a ≤ 16) where
  -- a pair without a row is one without a mark
  missing_marks : any_below s (λ q. any_below a (λ c. eqb (mark_at marks q c) 0)) ≡ missing s a rs
  unfolding missing
  missing_marks =
      any_cong s (λ (q : ℕ). any_below a (λ c. eqb (mark_at marks q c) 0)) (λ (q : ℕ). any_below a (λ c. eqb (named_by rs q c) 0))
      (λ q h.
      any_cong a (λ (c : ℕ). eqb (mark_at marks q c) 0) (λ (c : ℕ). eqb (named_by rs q c) 0)
      (λ c k. ap (λ (x : ℕ). eqb x 0) (are.are q c (omega arith)) ∙ mark_test (named_by rs q c) (next_in rs q c)))

  module _ (within : AllWithin s a rs) (all : missing s a rs ≡ false) where
    -- a pair of the rule has a row
    has_row : (q c : ℕ) → q < s → c < a → 1 ≤ named_by rs q c
    has_row q c h k =
        by_cases (dec_le 1 (named_by rs q c)) (λ l. l)
        (λ none. absurd (true≢false (sym (pair_missing s a rs q c h k (omega arith)) ∙ all)))

    -- a pair past S or A has none
    no_rows : (q c : ℕ) → (s ≤ q) ⊎ (a ≤ c) → named_by rs q c ≡ 0
    no_rows q c past =
        by_cases (dec_le 1 (named_by rs q c))
        (λ (some : 1 ≤ named_by rs q c).
        let (i, l, named) = count_some q c rs some in
        let w = within i l in
        absurd (out past (omega (arith, named.to_state, w.last_state)) (omega (arith, named.to_symbol, w.last_symbol))))
        (λ none. omega arith)
      where
        out : (s ≤ q) ⊎ (a ≤ c) → q < s → c < a → ⊥
        out (inl h) l m = omega arith
        out (inr h) l m = omega arith

    -- the byte of a pair
    pair_byte : (q c : ℕ) → c < 16 → mark_at marks q c - 1 ≡ cell_byte (automaton_of_rows s a f rs) q c
    unfolding automaton_of_rows
    pair_byte q c l =
        ap (λ (x : ℕ). x - 1) (are.are q c l)
        ∙ by_cases (dec_le s q)
        (λ (past : s ≤ q).
        no_mark (named_by rs q c) (next_in rs q c) (no_rows q c (inl past)) ∙ sym (cell_byte_past (automaton_of_rows s a f rs) q c (inl past)))
        (λ below.
        by_cases (dec_le a c)
        (λ (past : a ≤ c).
        no_mark (named_by rs q c) (next_in rs q c) (no_rows q c (inr past)) ∙ sym (cell_byte_past (automaton_of_rows s a f rs) q c (inr past)))
        (λ before.
        let h : q < s = omega arith in
        let k : c < a = omega arith in
        mark_next (named_by rs q c) (next_in rs q c) (has_row q c h k)
        ∙ sym (cell_byte_at (automaton_of_rows s a f rs) q c h k ∙ rule_cell s a f rs q c h k)))

    -- all of them
    bytes_made : tab 256 (λ i. get_or marks i 0 - 1) ≡ rule_bytes (automaton_of_rows s a f rs)
    unfolding rule_bytes
    bytes_made =
        tab_cong 256 (λ (i : ℕ). get_or marks i 0 - 1) (λ (i : ℕ). cell_byte (automaton_of_rows s a f rs) (i / 16) (i % 16))
        (λ i h.
        let place : i ≡ i / 16 * 16 + i % 16 = omega arith in
        ap (λ (k : ℕ). get_or marks k 0 - 1) place ∙ pair_byte (i / 16) (i % 16) (omega arith))

-- ---- the ways out

module _ (text rule : List ℕ) (s a f : ℕ) where
  -- what the call answers, and leaves of the rule buffer
  abbrev pub RowsEnds : Result Unit ℕ → List ℕ → Type 0
  RowsEnds x rule' =
      (x ≡ rows_answer (rows_made text s a f (length rule))) × (rule' ≡ made_after (rows_made text s a f (length rule)) rule)

  -- an answer is what it equals
  ends_as
      : (y : Made) {x : Result Unit ℕ} {rule' : List ℕ} → rows_made text s a f (length rule) ≡ y
      → (x ≡ rows_answer y) × (rule' ≡ made_after y rule) → RowsEnds x rule'
  ends_as y {x} {rule'} e h = subst (λ (z : Made). (x ≡ rows_answer z) × (rule' ≡ made_after z rule)) (sym e) h

  -- 13
  pub rows_other_length : (length rule ≡ 256 → ⊥) → RowsEnds (Err 13) rule
  rows_other_length other = ends_as (refuses 13) (simp (ne_eqb (length rule) rule_size other)) (refl, refl)

  module _ (same : length rule ≡ 256) where
    -- past 13
    with_room : rows_made text s a f (length rule) ≡ rule_from text s a f
    with_room = simp (eq-eqb (length rule) rule_size same)

    -- past the tests of 17 that look at no row
    from_rows
        : (b : Bool) → (leb (length text) max_text && numbers_fit s a f) ≡ b
        → rows_made text s a f (length rule) ≡ cond b (made_of_rows s a f (rows_in s a text)) (refuses 17)
    unfolding rule_from
    from_rows b e = with_room ∙ ap (λ (t : Bool). cond t (made_of_rows s a f (rows_in s a text)) (refuses 17)) e

    -- 17 for the text's length
    pub rows_too_long : max_text < length text → RowsEnds (Err 17) rule
    rows_too_long long =
        ends_as (refuses 17) (from_rows false (ap (λ (b : Bool). b && numbers_fit s a f) (lt-leb (length text) max_text long))) (refl, refl)

    module _ (short : length text ≤ max_text) where
      -- 17 for S, A or the final set
      pub rows_unfit : numbers_fit s a f ≡ false → RowsEnds (Err 17) rule
      rows_unfit e =
          ends_as (refuses 17)
          (from_rows false
          (fails_of (leb (length text) max_text && numbers_fit s a f)
          (λ t. true≢false (sym ((and-eq-true_iff (leb (length text) max_text) (numbers_fit s a f)).0 t).1 ∙ e))))
          (refl, refl)

      module _ (fit : numbers_fit s a f ≡ true) (marks : List ℕ) (r : ℕ) (w : RowsTaken s a text marks r) where
        -- past them
        rows_made_lem : rows_made text s a f (length rule) ≡ made_of_rows s a f (rows_in s a text)
        rows_made_lem = from_rows true ((and-eq-true_iff (leb (length text) max_text) (numbers_fit s a f)).1 (le-leb (length text) max_text short, fit))

        -- 17 for a row, or 18
        pub rows_refused : (r ≡ 0 → ⊥) → RowsEnds (Err r) rule
        rows_refused nz = go (rows_in s a text) refl
          where
            by_test
                : (rs : List Row) → rows_in s a text ≡ rows rs → (b : Bool) → twice s a rs ≡ b → r ≡ cond b 18 0
                → RowsEnds (Err r) rule
            by_test rs is true t e =
                ends_as (refuses 18) (rows_made_lem ∙ ap (made_of_rows s a f) is ∙ simp t) (ap Err e, refl)
            by_test rs is false t e = absurd (nz e)

            go : (x : Rows) → rows_in s a text ≡ x → RowsEnds (Err r) rule
            go (rows rs) is =
                by_test rs is (twice s a rs) refl (w.status ∙ ap (rows_status s a) is)
            go not_rows is =
                ends_as (refuses 17) (rows_made_lem ∙ ap (made_of_rows s a f) is) (ap Err (w.status ∙ ap (rows_status s a) is), refl)

        module _ (z : r ≡ 0) where
          -- no pair has two rows
          once : (rs : List Row) → rows_in s a text ≡ rows rs → twice s a rs ≡ false
          once rs is =
              fails_of (twice s a rs)
              (λ t. omega (arith, z, w.status ∙ ap (rows_status s a) is ∙ ap (λ (b : Bool). cond b 18 0) t))

          -- 19
          pub rows_missing : any_below s (λ q. any_below a (λ c. eqb (mark_at marks q c) 0)) ≡ true → RowsEnds (Err 19) rule
          rows_missing e =
              let (rs, is, are) = w.marks_of z in
              let numbers = (numbers_fit_says s a f).0 fit in
              let none : missing s a rs ≡ true = sym (missing_marks s a f rs marks are numbers.few_states numbers.few_symbols) ∙ e in
              let made : made_of_rows s a f (rows rs) ≡ refuses 19 = simp (once rs is, none) in
              ends_as (refuses 19) (rows_made_lem ∙ ap (made_of_rows s a f) is ∙ made) (refl, refl)

          -- the rule
          pub rows_accepted
              : any_below s (λ q. any_below a (λ c. eqb (mark_at marks q c) 0)) ≡ false → (rule' : List ℕ)
              → rule' ≡ tab 256 (λ i. get_or marks i 0 - 1) → RowsEnds (Ok tt) rule'
          rows_accepted e rule' copied =
              let (rs, is, are) = w.marks_of z in
              let numbers = (numbers_fit_says s a f).0 fit in
              let all : missing s a rs ≡ false = sym (missing_marks s a f rs marks are numbers.few_states numbers.few_symbols) ∙ e in
              let made : made_of_rows s a f (rows rs) ≡ makes (automaton_of_rows s a f rs) = simp (once rs is, all) in
              let within = text_within s a text rs ((rows_says s a text rs).0 is) in
              ends_as (makes (automaton_of_rows s a f rs)) (rows_made_lem ∙ ap (made_of_rows s a f) is ∙ made) (
                refl,
                copied ∙ bytes_made s a f rs marks are numbers.few_states numbers.few_symbols within all,
              )

-- ---- by value

-- an answer and the table beside it
abbrev pub beside : Result Unit ℕ → List ℕ → WithTable (Result Unit ℕ)
beside x table = record { answer = x; table = table }

-- the rule buffer is a table of zeros before the call
module _ (text table : List ℕ) (s a f : ℕ) (x : Result Unit ℕ) where
  -- what the call ends with, by the length of the rule buffer
  abbrev ValueEnds : ℕ → Type 0
  ValueEnds n =
      (x ≡ rows_answer (rows_made text s a f n)) × (table ≡ made_after (rows_made text s a f n) (replicate rule_size 0))

  -- what is left of the table is beside the answer
  beside_is : (y : Made) → x ≡ rows_answer y → table ≡ made_after y (replicate rule_size 0) → beside x table ≡ rows_value y
  beside_is (makes m) e h = ap₂ beside e h
  beside_is (refuses k) e h = ap₂ beside e h

  pub value_ends : RowsEnds text (replicate rule_size 0) s a f x table → beside x table ≡ rows_value (rows_made text s a f rule_size)
  value_ends h =
      let ends = subst ValueEnds (length-replicate {A = ℕ} rule_size 0) h in
      beside_is (rows_made text s a f rule_size) ends.0 ends.1
