-- The rows of a text: they are read if and only if the text is exactly these rows, and it is not rows alone if and only if some row has a
-- fault: as many rows are due as the text has room for, so a fault is a line that is turned back or what is left past the last line.
-- Assumes nothing.
use mathlib.Core.Path.{◌≡◌, refl, sym, ap, ◌∙◌, subst}
use mathlib.Core.Logic.{◌≢◌, ◌↔◌}
use mathlib.Core.Bool.{true≢false}
use mathlib.Core.List.{List, [], ◌∷◌, map}
use Prim.Native.Nat.{ℕ, ◌+◌, ◌*◌, ◌<◌}
use native.Mathlib.Omega.{arith}
use lib.ListN.{length, drop, get_or, length-drop, length-map, get_or-map}
use Rattle.lines.specs.Line.{line_length}
use Rattle.lines.specs.Lines.{Lines, lines, refused, lines_of}
use Rattle.lines.specs.Written.{LineAt, LinesAt, BadLine, ended, malformed, outside, last_of}
use Rattle.lines.proofs.SpelledLine.{line_long}
use Rattle.lines.proofs.SpelledLines.{lines_says, Refused-Says, line_once, stand_past, stand_at, good_at}
use Rattle.lines.proofs.AlikeLaws.{stand_length}
use Rattle.rulerows.specs.declared.rows.Row.{Row}
use Rattle.rulerows.specs.RuleRows.{row_of, row_line, Rows, rows, not_rows, rows_read, rows_due, rows_in}
use Rattle.rulerows.specs.RowsSay.{RowWithin, row_at, RowsText, RowTestsSay}
use Rattle.rulerows.proofs.RowsLaws.{row_within, row_names, AllWithin}

-- a row that has a fault
pub data RowFault (s a : ℕ) (text : List ℕ) : Type 0 where
  none_there
      : (i : ℕ) → i * line_length 5 < length text → ((ns : List ℕ) → LineAt 81 5 (drop (i * line_length 5) text) ns → ⊥)
      → RowFault s a text
  not_within
      : (i : ℕ) (ns : List ℕ) → LineAt 81 5 (drop (i * line_length 5) text) ns → (RowWithin s a (row_of ns) → ⊥) → RowFault s a text

-- the rows in what is read, and whether there are any
abbrev rows_of : Rows → List Row
rows_of (rows rs) = rs
rows_of not_rows = []

abbrev tag : Rows → ℕ
tag (rows rs) = 1
tag not_rows = 0

-- no text is both
pub rows_or_not : {rs : List Row} → not_rows ≡ rows rs → ⊥
rows_or_not e = let z : ◌≡◌ {A = ℕ} 0 1 = ap tag e in omega arith

module _ (s a : ℕ) (text : List ℕ) where
  -- ---- exactly these rows

  -- from what is read
  read_rows : (rs : List Row) → rows_in s a text ≡ rows rs → RowsText s a text rs
  unfolding rows_in
  read_rows rs e = go (lines_of (row_line s a) (rows_due text) 0 [] text) refl e
    where
      go : (x : Lines) → lines_of (row_line s a) (rows_due text) 0 [] text ≡ x → rows_read x ≡ rows rs → RowsText s a text rs
      go (lines ls []) is e =
          let l = (lines_says (row_line s a) (rows_due text) 0 [] text ls []).0 is in
          let are : rs ≡ map row_of ls = sym (ap rows_of e) in
          let count : length ls ≡ length rs = sym (ap length are ∙ length-map ls row_of) in
          record { lines = ls; stand = record { count = count; good = l.good; stand = l.stand }; are = are }
      go (lines ls (b ∷ rest)) is e = absurd (rows_or_not e)
      go (refused k) is e = absurd (rows_or_not e)

  module _ (rs : List Row) (t : RowsText s a text rs) where
    -- a line for each row
    lines_count : length t.lines ≡ length rs
    lines_count = t.stand.count

    -- the text has room for no other
    pub text_length : length text ≡ length rs * 32
    text_length = omega (arith, stand_length (row_line s a) t.lines text [] t.stand.stand, lines_count)

    -- to what is read
    pub rows_read_lem : rows_in s a text ≡ rows rs
    unfolding rows_in
    rows_read_lem =
        let due : length rs ≡ rows_due text = omega (arith, text_length) in
        let l : LinesAt (row_line s a) (rows_due text) 0 [] text t.lines [] =
        subst (λ (c : ℕ). LinesAt (row_line s a) c 0 [] text t.lines []) due t.stand in
        ap rows_read ((lines_says (row_line s a) (rows_due text) 0 [] text t.lines []).1 l) ∙ ap rows (sym t.are)

    -- a row is that of its line
    row_of_line : (i : ℕ) → row_at rs i ≡ row_of (get_or t.lines i [])
    row_of_line i = ap (λ (l : List Row). row_at l i) t.are ∙ get_or-map row_of t.lines i []

    -- which is within its limits
    line_within : (i : ℕ) → i < length rs → RowWithin s a (row_of (get_or t.lines i []))
    line_within i l =
        let (last, passes) = good_at (row_line s a) t.stand.good i (omega (arith, lines_count)) in
        (row_within s a i last (get_or t.lines i [])).0 passes

    pub text_within : AllWithin s a rs
    text_within i l = subst (RowWithin s a) (sym (row_of_line i)) (line_within i l)

    -- no row has a fault
    no_fault : RowFault s a text → ⊥
    no_fault (none_there i l none) =
        none (get_or t.lines i []) (stand_at (row_line s a) t.lines text [] i t.stand.stand (omega (arith, text_length, lines_count)))
    no_fault (not_within i ns l bad) =
        let room = line_long l in
        let here : i < length rs = omega (arith, room, length-drop (i * 32) text, text_length) in
        let there = stand_at (row_line s a) t.lines text [] i t.stand.stand (omega (arith, here, lines_count)) in
        let same = line_once 81 5 (drop (i * 32) text) (get_or t.lines i []) ns there l in
        bad (subst (λ (ms : List ℕ). RowWithin s a (row_of ms)) same (line_within i here))

  -- both ways
  pub rows_says : (rs : List Row) → (rows_in s a text ≡ rows rs) ↔ RowsText s a text rs
  rows_says rs = (read_rows rs, rows_read_lem rs)

  -- ---- a fault

  -- at the first line that is turned back
  bad_row
      : (i place r : ℕ) (before due : List ℕ) → drop (i * 32) text ≡ due → length text ≡ i * 32 + length due → i < rows_due text
      → BadLine (row_line s a) place before due r → RowFault s a text
  bad_row i place r before due is long few (ended none) =
      absurd (omega (arith, ap length none))
  bad_row i place r before [] is long few (malformed some none) = absurd (some refl)
  bad_row i place r before (b ∷ due) is long few (malformed some none) =
      none_there i (omega arith) (λ ns l. none ns (subst (λ (x : List ℕ). LineAt 81 5 x ns) is l))
  bad_row i place r before due is long few (outside {ns} l bad) =
      not_within i ns (subst (λ (x : List ℕ). LineAt 81 5 x ns) (sym is) l)
      (λ w. true≢false (sym ((row_within s a place before ns).1 w) ∙ bad))

  -- past the last line
  bytes_left : (c : ℕ) → c ≡ rows_due text → c * 32 < length text → RowFault s a text
  bytes_left c is more =
      none_there c more (λ ns l. omega (arith, line_long l, length-drop (c * 32) text))

  -- not rows alone
  pub fault_found : rows_in s a text ≡ not_rows → RowFault s a text
  unfolding rows_in
  fault_found e = go (lines_of (row_line s a) (rows_due text) 0 [] text) refl e
    where
      go : (x : Lines) → lines_of (row_line s a) (rows_due text) 0 [] text ≡ x → rows_read x ≡ not_rows → RowFault s a text
      go (lines ls []) is e = absurd (rows_or_not (sym e))
      go (lines ls (b ∷ rest)) is e =
          let l = (lines_says (row_line s a) (rows_due text) 0 [] text ls (b ∷ rest)).0 is in
          bytes_left (length ls) l.count (omega (arith, stand_length (row_line s a) ls text (b ∷ rest) l.stand))
      go (refused r) is e =
          let f = (Refused-Says (row_line s a) (rows_due text) 0 [] text r).0 is in
          bad_row (length f.passed) (0 + length f.passed) r (last_of [] f.passed) f.due (stand_past (row_line s a) f.passed text f.due f.stand)
          (stand_length (row_line s a) f.passed text f.due f.stand) f.few f.bad

  -- either
  pub fault_not_rows : RowFault s a text → rows_in s a text ≡ not_rows
  fault_not_rows fault = go (rows_in s a text) refl
    where
      go : (x : Rows) → rows_in s a text ≡ x → rows_in s a text ≡ not_rows
      go (rows rs) e = absurd (no_fault rs (read_rows rs e) fault)
      go not_rows e = e

-- ---- the tests

-- of a row, and of the text's length
pub row_tests_say : RowTestsSay
row_tests_say =
    record {
      within = row_within;
      named = row_names;
      count = λ s a text rs t.
          let long = text_length s a text rs t in (λ h. omega (arith, h, long), λ h. omega (arith, h, long));
    }
