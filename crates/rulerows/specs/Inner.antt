-- What the parts of the call for rule rows ask and find.
-- Inner contracts: what functions ask of and leave to each other. No promise is stated in them; a reader need not believe them.
-- Assumes nothing.
use Rattle.std.specs.Prelude.{◌≡◌, ◌⊎◌, Bool, true, false, cond, List, [], ℕ, ◌+◌, ◌*◌, ◌≤◌, ◌<◌, eqb, length, get_or, Option, Some, None}
use Rattle.lines.specs.Line.{Due, ends, no_line, found}
use Rattle.rulerows.specs.declared.rows.Row.{Row}
use Rattle.rulerows.specs.RuleRows.{row_of, good_row, Rows, rows, not_rows, rows_in, named_by, next_in, twice}
use Rattle.rulerows.specs.RowsSay.{Names}

-- the row that is due, if it is there and within its limits
abbrev pub row_due : ℕ → ℕ → Due → Option Row
row_due s a ends = None
row_due s a no_line = None
row_due s a (found ns) = cond (good_row s a 0 [] ns) (Some (row_of ns)) None

-- a row within sixteen states and sixteen symbols
pub record RowFits (r : Row) : Type 0 where
  pub first_state : r.states.first < 16
  pub states : r.states.last < 16
  pub first_symbol : r.symbols.first < 16
  pub symbols : r.symbols.last < 16
  pub next : r.next < 16

-- the marks m are l with this mark from one place to before another; there was none
pub record Marked (l m : List ℕ) (start stop mark : ℕ) : Type 0 where
  pub free : (i : ℕ) → start ≤ i → i < stop → get_or l i 0 ≡ 0
  pub marked : (i : ℕ) → start ≤ i → i < stop → get_or m i 0 ≡ mark
  pub others : (i : ℕ) → (i < start) ⊎ (stop ≤ i) → get_or m i 0 ≡ get_or l i 0

-- the places are marked, or one of them had a mark
pub record SpanMarked (l m : List ℕ) (start stop mark : ℕ) (r : Bool) : Type 0 where
  pub long : length m ≡ length l
  pub all : r ≡ true → Marked l m start stop mark
  pub met : r ≡ false → (i : ℕ) × (start ≤ i) × (i < stop) × (get_or l i 0 ≡ 0 → ⊥)

-- the mark of a pair
abbrev pub mark_at : List ℕ → ℕ → ℕ → ℕ
mark_at marks q c = get_or marks (q * 16 + c) 0

-- the marks m are l with the row's next state plus one at the pairs that it names, which had none; or one of them had a mark
pub record RowMarked (row : Row) (l m : List ℕ) (r : Bool) : Type 0 where
  pub long : length m ≡ 256
  pub free : r ≡ true → (q c : ℕ) → c < 16 → Names row q c → mark_at l q c ≡ 0
  pub marked : r ≡ true → (q c : ℕ) → c < 16 → Names row q c → mark_at m q c ≡ row.next + 1
  pub others : r ≡ true → (q c : ℕ) → c < 16 → (Names row q c → ⊥) → mark_at m q c ≡ mark_at l q c
  pub met : r ≡ false → (q : ℕ) × (c : ℕ) × (c < 16) × Names row q c × (mark_at l q c ≡ 0 → ⊥)

-- one row more, after rows of this status: 18 stays; else it is marked, or 18
pub record MarkedMore (row : Row) (status : ℕ) (l m : List ℕ) (r : ℕ) : Type 0 where
  pub long : length m ≡ 256
  pub stays : (status ≡ 0 → ⊥) → r ≡ status
  pub goes_on : status ≡ 0 → ((r ≡ 0) × RowMarked row l m true) ⊎ ((r ≡ 18) × RowMarked row l m false)

-- the mark of a pair by some rows: the next state plus one, or 0 without a row
abbrev pub mark_of : List Row → ℕ → ℕ → ℕ
mark_of rs q c = cond (eqb (named_by rs q c) 0) 0 (next_in rs q c + 1)

-- marks that are those of some rows
pub record MarksOf (rs : List Row) (marks : List ℕ) : Type 0 where
  pub long : length marks ≡ 256
  pub are : (q c : ℕ) → c < 16 → mark_at marks q c ≡ mark_of rs q c

-- 17, 18, or 0 where no row is turned back and no pair has two
abbrev pub rows_status : ℕ → ℕ → Rows → ℕ
rows_status s a not_rows = 17
rows_status s a (rows rs) = cond (twice s a rs) 18 0

-- the rows of a text are taken: the status, and beside 0 the marks of its rows
pub record RowsTaken (s a : ℕ) (text marks : List ℕ) (r : ℕ) : Type 0 where
  pub status : r ≡ rows_status s a (rows_in s a text)
  pub long : length marks ≡ 256
  pub marks_of : r ≡ 0 → (rs : List Row) × (rows_in s a text ≡ rows rs) × MarksOf rs marks
