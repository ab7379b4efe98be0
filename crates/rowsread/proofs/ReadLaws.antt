-- Laws of the rows of a text taken in turn, in the shape of the code: the first n rows pass, and their pairs are marked or two of them have met;
-- a row that is none or not within its limits; the end of the text.
-- Assumes nothing.
use Rattle.std.specs.Prelude.{Option, Some, None}
use mathlib.Core.Path.{◌≡◌, refl, sym, ap, ◌∙◌, subst}
use mathlib.Core.Logic.{⊎_elim, by_cases}
use mathlib.Core.Bool.{Bool, true, false, cond, true≢false}
use mathlib.Core.List.{List, [], map}
use Prim.Native.Nat.{ℕ, ◌+◌, ◌*◌, ◌≤◌, ◌<◌}
use native.Mathlib.Decide.{dec_le, ℕ_discrete}
use native.Mathlib.Omega.{arith}
use lib.Dec.{lit<}
use lib.ListN.{length, drop, replicate, length-replicate, length-drop, length-map, drop_of_length-le, get_or-map}
use borrow.Author.Tests.{eq-eqb, ne_eqb}
use Rattle.laws.specs.Bounded.{any_below, tab}
use Rattle.laws.proofs.Bounded.{below_suc, any_at, any_none_at, length_tab, get_d_tab}
use Rattle.laws.proofs.Tests.{fails_of, passes_or_fails}
use Rattle.lines.specs.Line.{Due, ends, no_line, found, line_of}
use Rattle.lines.specs.Lines.{lines, lines_of}
use Rattle.lines.specs.Places.{numbers_of, status_of, due_at, numbers_at, before_at, status_at}
use Rattle.lines.proofs.LinesLaws.{zeros_at, lines_all, passed_more}
use Rattle.lines.proofs.SpelledLine.{line_long, line_found, found_line}
use Rattle.rulerows.specs.declared.rows.Row.{Row}
use Rattle.rulerows.specs.RuleRows.{row_of, good_row, row_line, rows, rows_read, rows_due, rows_in, names, named_by, next_in, twice}
use Rattle.rulerows.specs.RowsSay.{RowWithin, Names, row_at}
use Rattle.rulerows.specs.Inner.{row_due, RowFits, mark_at, RowMarked, MarkedMore, mark_of, rows_status, RowsTaken}
use Rattle.rulerows.proofs.RowsLaws.{row_within, row_names, count_one, count_some, count_both, next_only, twice_says}
use Rattle.rulerows.proofs.TextLaws.{RowFault, none_there, not_within, rows_says, text_within, fault_not_rows}

-- ---- the row that is due

-- a row, and whether there is one
abbrev row_in : Option Row → Row
row_in (Some r) = r
row_in None = row_of []

abbrev is_row : Option Row → ℕ
is_row (Some r) = 1
is_row None = 0

-- by the test of its numbers
tested_row : (t : Bool) (r row : Row) → cond t (Some r) None ≡ Some row → (t ≡ true) × (r ≡ row)
tested_row true r row e = (refl, ap row_in e)
tested_row false r row e = let z : ◌≡◌ {A = ℕ} 0 1 = ap is_row e in absurd (omega arith)

tested_none : (t : Bool) (r : Row) → cond t (Some r) None ≡ None → t ≡ false
tested_none true r e = let z : ◌≡◌ {A = ℕ} 1 0 = ap is_row e in absurd (omega arith)
tested_none false r e = refl

-- one that is there
row_there
    : (s a : ℕ) (d : Due) (row : Row) → row_due s a d ≡ Some row
    → (d ≡ found (numbers_of d)) × (good_row s a 0 [] (numbers_of d) ≡ true) × (row_of (numbers_of d) ≡ row)
row_there s a ends row e = let z : ◌≡◌ {A = ℕ} 0 1 = ap is_row e in absurd (omega arith)
row_there s a no_line row e = let z : ◌≡◌ {A = ℕ} 0 1 = ap is_row e in absurd (omega arith)
row_there s a (found ns) row e = let (good, is) = tested_row (good_row s a 0 [] ns) (row_of ns) row e in (refl, good, is)

-- a row within its limits names states and symbols below sixteen
pub row_fits : {s a : ℕ} {row : Row} → s ≤ 16 → a ≤ 16 → RowWithin s a row → RowFits row
row_fits hs ha w =
    record {
      first_state = omega (arith, hs, w.first_state);
      states = omega (arith, hs, w.last_state);
      first_symbol = omega (arith, ha, w.first_symbol);
      symbols = omega (arith, ha, w.last_symbol);
      next = omega (arith, hs, w.next_state);
    }

module _ (s a : ℕ) (text : List ℕ) where
  -- the row at a place
  abbrev pub row_here : ℕ → Row
  row_here i = row_of (numbers_at (row_line s a) text i)

  -- its line passes, it is that row, and it has its bytes
  pub row_due_lem
      : (i : ℕ) (row : Row) → row_due s a (line_of 81 5 (drop (i * 32) text)) ≡ Some row
      → (status_at (row_line s a) text i ≡ 0) × (row_here i ≡ row) × RowWithin s a row × (i * 32 + 32 ≤ length text)
  unfolding status_at due_at numbers_at
  row_due_lem i row e =
      let d = line_of 81 5 (drop (i * 32) text) in
      let (is, good, same) = row_there s a d row e in
      let status : status_of (row_line s a) i (before_at (row_line s a) text i) d ≡ 0 =
      ap (status_of (row_line s a) i (before_at (row_line s a) text i)) is ∙ ap (λ (t : Bool). cond t 0 17) good in
      let room = line_long (found_line 81 5 (drop (i * 32) text) (numbers_of d) is) in
      (status, same, subst (RowWithin s a) same ((row_within s a 0 [] (numbers_of d)).0 good), omega (arith, room, length-drop (i * 32) text))

  -- one that is none, or not within its limits
  row_fault
      : (i : ℕ) (d : Due) → line_of 81 5 (drop (i * 32) text) ≡ d → i * 32 < length text → row_due s a d ≡ None → RowFault s a text
  row_fault i ends is l e =
      none_there i l (λ ns here. let z : ◌≡◌ {A = ℕ} 0 1 = cc (is, line_found 81 5 (drop (i * 32) text) ns here) in omega arith)
  row_fault i no_line is l e =
      none_there i l (λ ns here. let z : ◌≡◌ {A = ℕ} 0 1 = cc (is, line_found 81 5 (drop (i * 32) text) ns here) in omega arith)
  row_fault i (found ns) is l e =
      not_within i ns (found_line 81 5 (drop (i * 32) text) ns is)
      (λ w. true≢false (sym ((row_within s a 0 [] ns).1 w) ∙ tested_none (good_row s a 0 [] ns) (row_of ns) e))

  -- ---- what is kept

  -- the marks of the first n rows, of which no two name one pair
  pub record MarkedBy (n : ℕ) (marks : List ℕ) : Type 0 where
    pub none : (q c : ℕ) → c < 16 → ((i : ℕ) → i < n → Names (row_here i) q c → ⊥) → mark_at marks q c ≡ 0
    pub one : (q c i : ℕ) → c < 16 → i < n → Names (row_here i) q c → mark_at marks q c ≡ (row_here i).next + 1
    pub apart : (i j q c : ℕ) → i < j → j < n → Names (row_here i) q c → Names (row_here j) q c → ⊥

  -- two of the first n rows name one pair
  pub record Met (n : ℕ) : Type 0 where
    pub one : ℕ
    pub other : ℕ
    pub state : ℕ
    pub symbol : ℕ
    pub after : one < other
    pub last : other < n
    pub first_names : Names (row_here one) state symbol
    pub other_names : Names (row_here other) state symbol

  -- after the first n rows
  pub record TakenSoFar (n : ℕ) (marks : List ℕ) (status : ℕ) : Type 0 where
    pub passed : (j : ℕ) → j < n → status_at (row_line s a) text j ≡ 0
    pub room : n * 32 ≤ length text
    pub long : length marks ≡ 256
    pub marked : status ≡ 0 → MarkedBy n marks
    pub met : (status ≡ 0 → ⊥) → (status ≡ 18) × Met n

  -- before the first
  pub taken_start : (marks : List ℕ) → marks ≡ replicate 256 0 → TakenSoFar 0 marks 0
  taken_start marks e =
      record {
        passed = λ j l. absurd (omega arith);
        room = omega arith;
        long = ap length e ∙ length-replicate {A = ℕ} 256 0;
        marked = λ z.
            record {
              none = λ q c l h. ap (λ (m : List ℕ). mark_at m q c) e ∙ zeros_at 256 (q * 16 + c);
              one = λ q c i l h. absurd (omega arith);
              apart = λ i j q c h l. absurd (omega arith);
            };
        met = λ h. absurd (h refl);
      }

  -- a row that names a pair with a mark meets one before it
  meets
      : (n q c : ℕ) (marks : List ℕ) → c < 16 → MarkedBy n marks → (mark_at marks q c ≡ 0 → ⊥) → (i : ℕ) × (i < n) × Names (row_here i) q c
  meets n q c marks l by some =
      ⊎_elim
      (λ (t : any_below n (λ i. names (row_here i) q c) ≡ true).
      let (i, h, named) = any_at n (λ (i : ℕ). names (row_here i) q c) t in (i, h, (row_names (row_here i) q c).0 named))
      (λ (f : any_below n (λ i. names (row_here i) q c) ≡ false).
      absurd (some (by.none q c l (λ i h named.
      true≢false (sym ((row_names (row_here i) q c).1 named) ∙ any_none_at n (λ (i : ℕ). names (row_here i) q c) f i h)))))
      (passes_or_fails (any_below n (λ i. names (row_here i) q c)))

  -- one row more that meets none
  Marked-more
      : (n : ℕ) (marks more : List ℕ) → RowFits (row_here n) → MarkedBy n marks → RowMarked (row_here n) marks more true → MarkedBy (n + 1) more
  Marked-more n marks more fits by w =
      record {
        none = λ q c l h. w.others refl q c l (h n (omega arith)) ∙ by.none q c l (λ i k. h i (omega arith));
        one = λ q c i l h named.
            ⊎_elim
            (λ (e : i ≡ n).
            w.marked refl q c l (subst (λ (k : ℕ). Names (row_here k) q c) e named) ∙ ap (λ (k : ℕ). (row_here k).next + 1) (sym e))
            (λ (k : i < n).
            w.others refl q c l (λ again. omega (arith, w.free refl q c l again, by.one q c i l k named)) ∙ by.one q c i l k named)
            (below_suc {i = i} {n = n} (omega arith));
        apart = λ i j q c h l named again.
            ⊎_elim
            (λ (e : j ≡ n).
            let here = subst (λ (k : ℕ). Names (row_here k) q c) e again in
            let in_row : c < 16 = omega (arith, here.to_symbol, fits.symbols) in
            omega (arith, w.free refl q c in_row here, by.one q c i in_row (omega (arith, h, e)) named))
            (λ (k : j < n). by.apart i j q c h k named again)
            (below_suc {i = j} {n = n} (omega arith));
      }

  -- one that meets a row before it
  met_more : (n : ℕ) (marks more : List ℕ) → MarkedBy n marks → RowMarked (row_here n) marks more false → Met (n + 1)
  met_more n marks more by w =
      let (q, c, l, named, some) = w.met refl in
      let (i, h, first) = meets n q c marks l by some in
      record {
        one = i;
        other = n;
        state = q;
        symbol = c;
        after = h;
        last = omega arith;
        first_names = first;
        other_names = named;
      }

  -- two that met before
  met_still : (n : ℕ) → Met n → Met (n + 1)
  met_still n m =
      record {
        one = m.one;
        other = m.other;
        state = m.state;
        symbol = m.symbol;
        after = m.after;
        last = omega (arith, m.last);
        first_names = m.first_names;
        other_names = m.other_names;
      }

  -- one row more
  pub taken_next
      : (n : ℕ) (marks more : List ℕ) (status r : ℕ) (row : Row) → s ≤ 16 → a ≤ 16 → TakenSoFar n marks status
      → row_due s a (line_of 81 5 (drop (n * 32) text)) ≡ Some row → MarkedMore row status marks more r → TakenSoFar (n + 1) more r
  taken_next n marks more status r row hs ha so due w =
      let (passes, is, within, room) = row_due_lem n row due in
      let fits : RowFits (row_here n) = subst RowFits (sym is) (row_fits hs ha within) in
      by_cases (ℕ_discrete status 0)
      (λ (z : status ≡ 0).
      ⊎_elim
      (λ (good : (r ≡ 0) × RowMarked row marks more true).
      record {
        passed = passed_more (row_line s a) text n so.passed passes;
        room = omega (arith, room);
        long = w.long;
        marked = λ y. Marked-more n marks more fits (so.marked z) (subst (λ (x : Row). RowMarked x marks more true) (sym is) good.1);
        met = λ h. absurd (h good.0);
      })
      (λ (bad : (r ≡ 18) × RowMarked row marks more false).
      record {
        passed = passed_more (row_line s a) text n so.passed passes;
        room = omega (arith, room);
        long = w.long;
        marked = λ y. absurd (omega (arith, y, bad.0));
        met = λ h. (bad.0, met_more n marks more (so.marked z) (subst (λ (x : Row). RowMarked x marks more false) (sym is) bad.1));
      })
      (w.goes_on z))
      (λ (nz : status ≡ 0 → ⊥).
      let stays = w.stays nz in
      let before = so.met nz in
      record {
        passed = passed_more (row_line s a) text n so.passed passes;
        room = omega (arith, room);
        long = w.long;
        marked = λ y. absurd (nz (sym stays ∙ y));
        met = λ h. (stays ∙ before.0, met_still n before.1);
      })

  -- ---- the ways out

  -- a row that is none
  pub taken_stop
      : (n : ℕ) (marks : List ℕ) (status : ℕ) → TakenSoFar n marks status → n * 32 < length text
      → row_due s a (line_of 81 5 (drop (n * 32) text)) ≡ None → RowsTaken s a text marks 17
  taken_stop n marks status so l e =
      let none = fault_not_rows s a text (row_fault n (line_of 81 5 (drop (n * 32) text)) refl l e) in
      record { status = sym (ap (rows_status s a) none); long = so.long; marks_of = λ z. absurd (omega (arith, z)) }

  -- the end of the text
  module _ (n : ℕ) (marks : List ℕ) (status : ℕ) (so : TakenSoFar n marks status) (past : length text ≤ n * 32) where
    -- the rows
    abbrev taken : List Row
    taken = map row_of (tab n (numbers_at (row_line s a) text))

    taken_count : length taken ≡ n
    taken_count = length-map (tab n (numbers_at (row_line s a) text)) row_of ∙ length_tab n (numbers_at (row_line s a) text)

    taken_at : (i : ℕ) → i < n → row_at taken i ≡ row_here i
    taken_at i l =
        get_or-map row_of (tab n (numbers_at (row_line s a) text)) i []
        ∙ ap row_of (get_d_tab n (numbers_at (row_line s a) text) i [] l)

    -- they are those of the text
    taken_read : rows_in s a text ≡ rows taken
    unfolding rows_in
    taken_read =
        let due : rows_due text ≡ n = omega (arith, so.room) in
        let rest : drop (n * 32) text ≡ [] = drop_of_length-le text {i = n * 32} past in
        ap (λ (c : ℕ). rows_read (lines_of (row_line s a) c 0 [] text)) due
        ∙ ap rows_read (lines_all (row_line s a) text n (lit< tt) so.passed ∙ ap (lines (tab n (numbers_at (row_line s a) text))) rest)

    -- a pair's rows by their places
    to_here : (i q c : ℕ) → i < length taken → Names (row_at taken i) q c → (i < n) × Names (row_here i) q c
    to_here i q c l named =
        let k : i < n = omega (arith, l, taken_count) in (k, subst (λ (r : Row). Names r q c) (taken_at i k) named)

    from_here : (i q c : ℕ) → i < n → Names (row_here i) q c → Names (row_at taken i) q c
    from_here i q c l named = subst (λ (r : Row). Names r q c) (sym (taken_at i l)) named

    -- 18
    taken_twice : Met n → twice s a taken ≡ true
    taken_twice m =
        (twice_says s a taken (text_within s a text taken ((rows_says s a text taken).0 taken_read))).1 (record {
          one = m.one;
          other = m.other;
          state = m.state;
          symbol = m.symbol;
          after = m.after;
          last = omega (arith, m.last, taken_count);
          first_names = from_here m.one m.state m.symbol (omega (arith, m.after, m.last)) m.first_names;
          other_names = from_here m.other m.state m.symbol m.last m.other_names;
        })

    module _ (by : MarkedBy n marks) where
      -- no two rows of a pair
      taken_few : (q c : ℕ) → named_by taken q c ≤ 1
      taken_few q c =
          by_cases (dec_le 2 (named_by taken q c))
          (λ (two : 2 ≤ named_by taken q c).
          let (i, j, h, l, named, again) = count_both q c taken two in
          let last = to_here j q c l again in
          absurd (by.apart i j q c h last.0 (to_here i q c (omega (arith, h, l)) named).1 last.1))
          (λ few. omega arith)

      taken_once : twice s a taken ≡ false
      taken_once =
          fails_of (twice s a taken)
          (λ e.
          let t = (twice_says s a taken (text_within s a text taken ((rows_says s a text taken).0 taken_read))).0 e in
          let last = to_here t.other t.state t.symbol t.last t.other_names in
          by.apart t.one t.other t.state t.symbol t.after last.0
          (to_here t.one t.state t.symbol (omega (arith, t.after, t.last)) t.first_names).1 last.1)

      -- the marks are theirs
      taken_marks : (q c : ℕ) → c < 16 → mark_at marks q c ≡ mark_of taken q c
      taken_marks q c l =
          by_cases (dec_le 1 (named_by taken q c))
          (λ (some : 1 ≤ named_by taken q c).
          let (i, h, named) = count_some q c taken some in
          let (k, here) = to_here i q c h named in
          let next = next_only q c taken i h named (taken_few q c) in
          let mark : mark_of taken q c ≡ next_in taken q c + 1 =
          ap (λ (t : Bool). cond t 0 (next_in taken q c + 1)) (ne_eqb (named_by taken q c) 0 (λ z. omega (arith, z))) in
          by.one q c i l k here ∙ ap (λ (r : Row). r.next + 1) (sym (taken_at i k)) ∙ ap (λ (x : ℕ). x + 1) (sym next) ∙ sym mark)
          (λ none.
          let zero_rows : named_by taken q c ≡ 0 = omega arith in
          let mark : mark_of taken q c ≡ 0 =
          ap (λ (t : Bool). cond t 0 (next_in taken q c + 1)) (eq-eqb (named_by taken q c) 0 zero_rows) in
          by.none q c l (λ i k named. omega (arith, zero_rows, count_one q c taken i (omega (arith, k, taken_count)) (from_here i q c k named)))
          ∙ sym mark)

    pub taken_end : RowsTaken s a text marks status
    taken_end =
        by_cases (ℕ_discrete status 0)
        (λ (z : status ≡ 0).
        let by = so.marked z in
        record {
          status = z ∙ sym (ap (rows_status s a) taken_read ∙ ap (λ (t : Bool). cond t 18 0) (taken_once by));
          long = so.long;
          marks_of = λ y. (taken, taken_read, record { long = so.long; are = taken_marks by });
        })
        (λ (nz : status ≡ 0 → ⊥).
        let (eighteen, met) = so.met nz in
        record {
          status = eighteen ∙ sym (ap (rows_status s a) taken_read ∙ ap (λ (t : Bool). cond t 18 0) (taken_twice met));
          long = so.long;
          marks_of = λ y. absurd (nz y);
        })
