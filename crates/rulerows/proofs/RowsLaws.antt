-- Rows: the tests of a row in words, and how many rows name a pair: none, one, or two.
-- Assumes nothing.
use mathlib.Core.Path.{◌≡◌, ap, ◌∙◌}
use mathlib.Core.Logic.{◌↔◌, ⊎_elim, by_cases}
use mathlib.Core.Bool.{Bool, true, false, cond, and-eq-true_iff}
use mathlib.Core.List.{List, [], ◌∷◌}
use Prim.Native.Nat.{ℕ, zero, suc, ◌+◌, ◌≤◌, ◌<◌}
use native.Mathlib.Decide.{dec_le}
use native.Mathlib.Omega.{arith}
use lib.Dec.{eqb, leb}
use lib.ListN.{length}
use borrow.Author.Tests.{le-leb, lt-ltb, leb-true, ltb-true, eqb-true, eq-eqb}
use Rattle.laws.specs.Bounded.{any_below}
use Rattle.laws.proofs.Bounded.{any_at, any_of}
use Rattle.laws.proofs.Tests.{passes_or_fails}
use Rattle.lines.specs.Line.{at}
use Rattle.rulerows.specs.declared.rows.Row.{Row}
use Rattle.rulerows.specs.RuleRows.{row_of, good_row, names, named_by, next_in, twice, missing}
use Rattle.rulerows.specs.RowsSay.{RowWithin, Names, row_at, Twice, Unnamed}

-- ---- the tests of a row

-- its numbers
pub row_within : (s a i : ℕ) (before ns : List ℕ) → (good_row s a i before ns ≡ true) ↔ RowWithin s a (row_of ns)
row_within s a i before ns = (
  λ h.
      let to_next = (and-eq-true_iff _ _).0 h in
      let to_symbol = (and-eq-true_iff _ _).0 to_next.0 in
      let to_symbols = (and-eq-true_iff _ _).0 to_symbol.0 in
      let to_state = (and-eq-true_iff _ _).0 to_symbols.0 in
      let states = leb-true (at ns 0) (at ns 1) to_state.0 in
      let last = ltb-true (at ns 1) s to_state.1 in
      let symbols = leb-true (at ns 2) (at ns 3) to_symbols.1 in
      let last_symbol = ltb-true (at ns 3) a to_symbol.1 in
      record {
        first_state = omega (arith, states, last);
        last_state = last;
        first_symbol = omega (arith, symbols, last_symbol);
        last_symbol = last_symbol;
        next_state = ltb-true (at ns 4) s to_next.1;
        states_rise = states;
        symbols_rise = symbols;
      },
  λ w.
      (and-eq-true_iff _ _).1 (
        (and-eq-true_iff _ _).1 (
          (and-eq-true_iff _ _).1 (
            (and-eq-true_iff _ _).1 (le-leb (at ns 0) (at ns 1) w.states_rise, lt-ltb (at ns 1) s w.last_state),
            le-leb (at ns 2) (at ns 3) w.symbols_rise,
          ),
          lt-ltb (at ns 3) a w.last_symbol,
        ),
        lt-ltb (at ns 4) s w.next_state,
      ),
)

-- the pairs that it names
pub row_names : (r : Row) (q c : ℕ) → (names r q c ≡ true) ↔ Names r q c
unfolding names
row_names r q c = (
  λ h.
      let both = (and-eq-true_iff _ _).0 h in
      let states = (and-eq-true_iff _ _).0 both.0 in
      let symbols = (and-eq-true_iff _ _).0 both.1 in
      record {
        from_state = leb-true r.states.first q states.0;
        to_state = leb-true q r.states.last states.1;
        from_symbol = leb-true r.symbols.first c symbols.0;
        to_symbol = leb-true c r.symbols.last symbols.1;
      },
  λ n.
      (and-eq-true_iff _ _).1 (
        (and-eq-true_iff _ _).1 (le-leb r.states.first q n.from_state, le-leb q r.states.last n.to_state),
        (and-eq-true_iff _ _).1 (le-leb r.symbols.first c n.from_symbol, le-leb c r.symbols.last n.to_symbol),
      ),
)

-- ---- how many rows name a pair

module _ (q c : ℕ) where
  -- a row that names it, or does not
  one_more : (r : Row) (rs : List Row) → Names r q c → named_by (r ∷ rs) q c ≡ 1 + named_by rs q c
  unfolding named_by
  one_more r rs n = ap (λ (b : Bool). cond b 1 0 + named_by rs q c) ((row_names r q c).1 n)

  no_more : (r : Row) (rs : List Row) → names r q c ≡ false → named_by (r ∷ rs) q c ≡ 0 + named_by rs q c
  unfolding named_by
  no_more r rs n = ap (λ (b : Bool). cond b 1 0 + named_by rs q c) n

  at_least : (r : Row) (rs : List Row) → named_by rs q c ≤ named_by (r ∷ rs) q c
  at_least r rs =
      ⊎_elim
      (λ (t : names r q c ≡ true). omega (arith, one_more r rs ((row_names r q c).0 t)))
      (λ (f : names r q c ≡ false). omega (arith, no_more r rs f))
      (passes_or_fails (names r q c))

  -- a row names it, so there is one at least
  pub count_one : (rs : List Row) (i : ℕ) → i < length rs → Names (row_at rs i) q c → 1 ≤ named_by rs q c
  count_one [] i l n = absurd (omega arith)
  count_one (r ∷ rs) zero l n = omega (arith, one_more r rs n)
  count_one (r ∷ rs) (suc i) l n = omega (arith, count_one rs i (omega arith) n, at_least r rs)

  -- and where there is one, a row names it
  pub count_some : (rs : List Row) → 1 ≤ named_by rs q c → (i : ℕ) × (i < length rs) × Names (row_at rs i) q c
  unfolding named_by
  count_some [] h = absurd (omega arith)
  count_some (r ∷ rs) h =
      ⊎_elim
      (λ (t : names r q c ≡ true). (0, omega arith, (row_names r q c).0 t))
      (λ (f : names r q c ≡ false).
      let (i, l, n) = count_some rs (omega (arith, no_more r rs f)) in (suc i, omega arith, n))
      (passes_or_fails (names r q c))

  -- two rows name it
  pub count_two
      : (rs : List Row) (i j : ℕ) → i < j → j < length rs → Names (row_at rs i) q c → Names (row_at rs j) q c → 2 ≤ named_by rs q c
  count_two [] i j h l n m = absurd (omega arith)
  count_two (r ∷ rs) i zero h l n m = absurd (omega arith)
  count_two (r ∷ rs) zero (suc j) h l n m = omega (arith, one_more r rs n, count_one rs j (omega arith) m)
  count_two (r ∷ rs) (suc i) (suc j) h l n m = omega (arith, count_two rs i j (omega arith) (omega arith) n m, at_least r rs)

  -- and where there are two, two rows do
  pub count_both
      : (rs : List Row) → 2 ≤ named_by rs q c
      → (i : ℕ) × (j : ℕ) × (i < j) × (j < length rs) × Names (row_at rs i) q c × Names (row_at rs j) q c
  unfolding named_by
  count_both [] h = absurd (omega arith)
  count_both (r ∷ rs) h =
      ⊎_elim
      (λ (t : names r q c ≡ true).
      let n = (row_names r q c).0 t in
      let (j, l, m) = count_some rs (omega (arith, one_more r rs n)) in (0, suc j, omega arith, omega arith, n, m))
      (λ (f : names r q c ≡ false).
      let (i, j, h', l, n, m) = count_both rs (omega (arith, no_more r rs f)) in (suc i, suc j, omega arith, omega arith, n, m))
      (passes_or_fails (names r q c))

  -- the next state of the one row that names it
  pub next_only
      : (rs : List Row) (i : ℕ) → i < length rs → Names (row_at rs i) q c → named_by rs q c ≤ 1 → next_in rs q c ≡ (row_at rs i).next
  unfolding next_in
  next_only [] i l n few = absurd (omega arith)
  next_only (r ∷ rs) zero l n few = ap (λ (b : Bool). cond b r.next (next_in rs q c)) ((row_names r q c).1 n)
  next_only (r ∷ rs) (suc i) l n few =
      ⊎_elim
      (λ (t : names r q c ≡ true).
      absurd (omega (arith, one_more r rs ((row_names r q c).0 t), count_one rs i (omega arith) n)))
      (λ (f : names r q c ≡ false).
      ap (λ (b : Bool). cond b r.next (next_in rs q c)) f ∙ next_only rs i (omega arith) n (omega (arith, no_more r rs f)))
      (passes_or_fails (names r q c))

-- ---- the tests of 18 and 19

module _ (s a : ℕ) (rs : List Row) where
  -- a pair with two rows
  pub twice_pair : twice s a rs ≡ true → (q : ℕ) × (q < s) × (c : ℕ) × (c < a) × (2 ≤ named_by rs q c)
  unfolding twice
  twice_pair e =
      let (q, h, row) = any_at s (λ (q : ℕ). any_below a (λ c. leb 2 (named_by rs q c))) e in
      let (c, k, two) = any_at a (λ (c : ℕ). leb 2 (named_by rs q c)) row in
      (q, h, c, k, leb-true 2 (named_by rs q c) two)

  pub pair_twice : (q c : ℕ) → q < s → c < a → 2 ≤ named_by rs q c → twice s a rs ≡ true
  unfolding twice
  pair_twice q c h k two =
      any_of s (λ (q : ℕ). any_below a (λ c. leb 2 (named_by rs q c))) q h
      (any_of a (λ (c : ℕ). leb 2 (named_by rs q c)) c k (le-leb 2 (named_by rs q c) two))

  -- a pair without a row
  pub missing_pair : missing s a rs ≡ true → (q : ℕ) × (q < s) × (c : ℕ) × (c < a) × (named_by rs q c ≡ 0)
  unfolding missing
  missing_pair e =
      let (q, h, row) = any_at s (λ (q : ℕ). any_below a (λ c. eqb (named_by rs q c) 0)) e in
      let (c, k, none) = any_at a (λ (c : ℕ). eqb (named_by rs q c) 0) row in
      (q, h, c, k, eqb-true (named_by rs q c) 0 none)

  pub pair_missing : (q c : ℕ) → q < s → c < a → named_by rs q c ≡ 0 → missing s a rs ≡ true
  unfolding missing
  pair_missing q c h k none =
      any_of s (λ (q : ℕ). any_below a (λ c. eqb (named_by rs q c) 0)) q h
      (any_of a (λ (c : ℕ). eqb (named_by rs q c) 0) c k (eq-eqb (named_by rs q c) 0 none))

  -- rows that name pairs of the rule alone
  abbrev pub AllWithin : Type 0
  AllWithin = (i : ℕ) → i < length rs → RowWithin s a (row_at rs i)

  -- 18 in words
  pub twice_says : AllWithin → (twice s a rs ≡ true) ↔ Twice rs
  twice_says within = (
    λ e.
        let (q, h, c, k, two) = twice_pair e in
        let (i, j, l, m, n, o) = count_both q c rs two in
        record {
          one = i;
          other = j;
          state = q;
          symbol = c;
          after = l;
          last = m;
          first_names = n;
          other_names = o;
        },
    λ t.
        let w = within t.other t.last in
        pair_twice t.state t.symbol (omega (arith, t.other_names.to_state, w.last_state))
        (omega (arith, t.other_names.to_symbol, w.last_symbol))
        (count_two t.state t.symbol rs t.one t.other t.after t.last t.first_names t.other_names),
  )

  -- 19 in words
  pub missing_says : (missing s a rs ≡ true) ↔ Unnamed s a rs
  missing_says = (
    λ e.
        let (q, h, c, k, none) = missing_pair e in
        record {
          state = q;
          symbol = c;
          state_below = h;
          symbol_below = k;
          no_row = λ i l n. omega (arith, none, count_one q c rs i l n);
        },
    λ u.
        by_cases (dec_le 1 (named_by rs u.state u.symbol))
        (λ (some : 1 ≤ named_by rs u.state u.symbol).
        let (i, l, n) = count_some u.state u.symbol rs some in absurd (u.no_row i l n))
        (λ none. pair_missing u.state u.symbol u.state_below u.symbol_below (omega arith)),
  )
