-- Texts of rows alike (document 02, request 5): zeros before a number's digits, "must give the same answer as the file written without". As many
-- rows are due as a text has room for; S and A are those that are given.
-- Assumes nothing.
use Rattle.std.specs.Prelude.{◌≡◌, List, [], ◌∷◌, map, ℕ, ◌≤◌, ◌<◌, length, replicate}
use Rattle.lines.specs.Line.{write_lines}
use Rattle.lines.specs.Alike.{AlikeUpTo, NoZerosOver, FileDue, AlikeFiles}
use Rattle.rulerows.specs.declared.rows.Row.{Row}
use Rattle.rulerows.specs.RuleRows.{row_line, rows_due, rows_in}
use Rattle.rulerows.specs.RowsSay.{RowWithin, row_at, RowsText}

-- the five numbers of a row
abbrev pub row_numbers : Row → List ℕ
row_numbers r = r.states.first ∷ r.states.last ∷ r.symbols.first ∷ r.symbols.last ∷ r.next ∷ []

-- the text written of some rows
unfoldable pub write_rows : List Row → List ℕ
unfolding write_lines
write_rows rs = write_lines 81 (map row_numbers rs)

-- texts alike
abbrev pub AlikeRows : ℕ → ℕ → List ℕ → List ℕ → Type 0
AlikeRows s a f g = AlikeFiles (row_line s a) (rows_due f) f g

-- the statement: texts alike are so either way, and have the same rows or none; so do texts of one length with alike rows due, whatever follows
-- these. The texts of the same rows are alike; all rows within their limits have a text, the written one, and of all their texts it is the
-- only one that has no zeros before a number's digits
pub record RowsSayAlike : Type 0 where
  pub itself : (s a : ℕ) (f : List ℕ) → AlikeRows s a f f
  pub either_way : (s a : ℕ) (f g : List ℕ) → AlikeRows s a f g → AlikeRows s a g f
  pub read_alike : (s a : ℕ) (f g : List ℕ) → AlikeRows s a f g → rows_in s a f ≡ rows_in s a g
  pub no_further
      : (s a : ℕ) (f g due : List ℕ) → length f ≡ length g → FileDue (row_line s a) (rows_due f) f due → AlikeUpTo due f g
      → rows_in s a f ≡ rows_in s a g
  pub same_rows : (s a : ℕ) (f g : List ℕ) (rs : List Row) → RowsText s a f rs → RowsText s a g rs → AlikeRows s a f g
  pub written
      : (s a : ℕ) (rs : List Row) → s ≤ 16 → a ≤ 16 → ((i : ℕ) → i < length rs → RowWithin s a (row_at rs i))
      → RowsText s a (write_rows rs) rs
  pub without_zeros
      : (s a : ℕ) (f : List ℕ) (rs : List Row) → RowsText s a f rs → NoZerosOver (replicate (length rs) 5) (write_rows rs)
  pub only
      : (s a : ℕ) (f : List ℕ) (rs : List Row) → RowsText s a f rs → NoZerosOver (replicate (length rs) 5) f → f ≡ write_rows rs
