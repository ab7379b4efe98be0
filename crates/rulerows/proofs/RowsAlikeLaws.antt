-- Texts of rows alike are read alike, as lines of any kind are; a row is its five numbers, so texts of the same rows have the same lines, and so
-- has the text that is written of these.
-- Assumes nothing.
use mathlib.Core.Path.{◌≡◌, refl, sym, ap, ◌∙◌, subst}
use mathlib.Core.List.{List, [], ◌∷◌, ◌++◌, map, append-nil}
use Prim.Native.Nat.{ℕ, suc, ◌/◌, ◌≤◌}
use native.Mathlib.Omega.{arith}
use lib.ListN.{length, replicate, length-map}
use Rattle.lines.specs.Line.{write_lines}
use Rattle.lines.specs.Lines.{lines, lines_of}
use Rattle.lines.specs.Written.{Fits, Stand, GoodLines, good_none, Good-more, LinesAt}
use Rattle.lines.specs.Alike.{Equal, AlikeUpTo, NoZerosOver, FileDue, all_due, AlikeFiles}
use Rattle.lines.proofs.SpelledLine.{fits_cons}
use Rattle.lines.proofs.SpelledLines.{written_stand}
use Rattle.lines.proofs.AlikeLaws.{alike_stand, ReadAlike, alike_by, exact_no_zeros, exact_only, due_alike, files_alike, lines_say_alike}
use Rattle.rulerows.specs.declared.rows.Row.{Row}
use Rattle.rulerows.specs.RuleRows.{row_of, row_line, rows_read, rows_due, rows_in}
use Rattle.rulerows.specs.RowsSay.{RowWithin, RowsText}
use Rattle.rulerows.specs.RowsAlike.{row_numbers, write_rows, AlikeRows, RowsSayAlike}
use Rattle.rulerows.proofs.RowsLaws.{row_within, AllWithin}
use Rattle.rulerows.proofs.TextLaws.{text_length}

-- ---- texts that are read alike

module _ (s a : ℕ) (f g : List ℕ) where
  -- texts of one length
  texts_alike
      : length f ≡ length g → ReadAlike (lines_of (row_line s a) (rows_due f) 0 [] f) (lines_of (row_line s a) (rows_due f) 0 [] g)
      → rows_in s a f ≡ rows_in s a g
  unfolding rows_in
  texts_alike long read =
      alike_by rows_read (λ ls b d rest other. refl) read ∙ ap (λ (n : ℕ). rows_read (lines_of (row_line s a) (n / 32) 0 [] g)) long

  -- texts alike
  pub read_alike : AlikeRows s a f g → rows_in s a f ≡ rows_in s a g
  read_alike alike = texts_alike alike.long (files_alike (row_line s a) (rows_due f) f g alike)

  -- whatever follows the rows due
  pub no_further
      : (due : List ℕ) → length f ≡ length g → FileDue (row_line s a) (rows_due f) f due → AlikeUpTo due f g → rows_in s a f ≡ rows_in s a g
  no_further due long d up_to_lem = texts_alike long (due_alike (row_line s a) (rows_due f) f g due long d up_to_lem)

  -- either way
  either_way : AlikeRows s a f g → AlikeRows s a g f
  either_way alike =
      subst (λ (n : ℕ). AlikeFiles (row_line s a) (n / 32) g f) alike.long (lines_say_alike.either_way (row_line s a) (rows_due f) f g alike)

-- ---- rows by their numbers

-- a line of five numbers is a row
line_is : (ns : List ℕ) → length ns ≡ 5 → ns ≡ row_numbers (row_of ns)
line_is [] five = absurd (omega arith)
line_is (a ∷ []) five = absurd (omega arith)
line_is (a ∷ b ∷ []) five = absurd (omega arith)
line_is (a ∷ b ∷ c ∷ []) five = absurd (omega arith)
line_is (a ∷ b ∷ c ∷ d ∷ []) five = absurd (omega arith)
line_is (a ∷ b ∷ c ∷ d ∷ e ∷ []) five = refl
line_is (a ∷ b ∷ c ∷ d ∷ e ∷ g ∷ ns) five = absurd (omega arith)

module _ (s a : ℕ) where
  -- good lines are those of their rows
  lines_are
      : {i : ℕ} {before : List ℕ} {ls : List (List ℕ)} → GoodLines (row_line s a) i before ls → ls ≡ map row_numbers (map row_of ls)
  lines_are good_none = refl
  lines_are (Good-more {ns} {ls} count fit good more) =
      ap (λ (l : List ℕ). l ∷ ls) (line_is ns count) ∙ ap {B = List (List ℕ)} (λ l. row_numbers (row_of ns) ∷ l) (lines_are more)

  -- so are those of a text
  text_lines : (f : List ℕ) (rs : List Row) (t : RowsText s a f rs) → t.lines ≡ map row_numbers rs
  text_lines f rs t = lines_are t.stand.good ∙ ap (map row_numbers) (sym t.are)

  -- texts of the same rows are alike
  pub same_rows : (f g : List ℕ) (rs : List Row) → RowsText s a f rs → RowsText s a g rs → AlikeRows s a f g
  same_rows f g rs t u =
      let same : u.lines ≡ t.lines = text_lines g rs u ∙ sym (text_lines f rs t) in
      let stand : Stand (row_line s a) g t.lines [] = subst (λ (ls : List (List ℕ)). Stand (row_line s a) g ls []) same u.stand.stand in
      let due : length rs ≡ rows_due f = omega (arith, text_length s a f rs t) in
      record {
        long = text_length s a f rs t ∙ sym (text_length s a g rs u);
        due = replicate (length t.lines) 5 ++ [];
        lines = all_due (subst (λ (c : ℕ). LinesAt (row_line s a) c 0 [] f t.lines []) due t.stand);
        over = alike_stand Equal (row_line s a) t.lines [] f g [] [] t.stand.stand stand refl;
      }

  -- a row within its limits is a good line
  numbers_fit : s ≤ 16 → a ≤ 16 → (r : Row) → RowWithin s a r → Fits (row_numbers r)
  numbers_fit hs ha r w =
      let last : List ℕ = r.next ∷ [] in
      let symbols : List ℕ = r.symbols.last ∷ last in
      let from_symbol : List ℕ = r.symbols.first ∷ symbols in
      fits_cons r.states.first (r.states.last ∷ from_symbol) (omega (arith, w.first_state, hs))
      (fits_cons r.states.last from_symbol (omega (arith, w.last_state, hs))
      (fits_cons r.symbols.first symbols (omega (arith, w.first_symbol, ha))
      (fits_cons r.symbols.last last (omega (arith, w.last_symbol, ha))
      (fits_cons r.next [] (omega (arith, w.next_state, hs)) (λ k. omega arith)))))

  rows_good
      : s ≤ 16 → a ≤ 16 → (i : ℕ) (before : List ℕ) (rs : List Row) → AllWithin s a rs → GoodLines (row_line s a) i before (map row_numbers rs)
  rows_good hs ha i before [] within = good_none
  rows_good hs ha i before (r ∷ rs) within =
      let w = within 0 (omega arith) in
      Good-more refl (numbers_fit hs ha r w) ((row_within s a i before (row_numbers r)).1 w)
      (rows_good hs ha (suc i) (row_numbers r) rs (λ k l. within (suc k) (omega arith)))

  -- the rows of these lines
  rows_back : (rs : List Row) → rs ≡ map row_of (map row_numbers rs)
  rows_back [] = refl
  rows_back (r ∷ rs) = ap {B = List Row} (λ l. r ∷ l) (rows_back rs)

  -- the text written of rows has them
  pub written_rows : (rs : List Row) → s ≤ 16 → a ≤ 16 → AllWithin s a rs → RowsText s a (write_rows rs) rs
  unfolding write_rows
  written_rows rs hs ha within =
      let good = rows_good hs ha 0 [] rs within in
      record {
        lines = map row_numbers rs;
        stand =
            record {
              count = length-map rs row_numbers;
              good = good;
              stand =
                  subst (λ (l : List ℕ). Stand (row_line s a) l (map row_numbers rs) []) (append-nil (write_lines 81 (map row_numbers rs)))
                  (written_stand (row_line s a) [] good);
            };
        are = rows_back rs;
      }

  module _ (f : List ℕ) (rs : List Row) (t : RowsText s a f rs) where
    -- the lines as they are written
    whole : write_lines 81 t.lines ≡ write_rows rs
    unfolding write_rows
    whole = ap (write_lines 81) (text_lines f rs t)

    -- no zeros
    pub without_zeros : NoZerosOver (replicate (length rs) 5) (write_rows rs)
    without_zeros = rw (← whole) (exact_no_zeros (row_line s a) f t.lines t.stand)

    -- no other text has none
    pub only : NoZerosOver (replicate (length rs) 5) f → f ≡ write_rows rs
    only none = exact_only (row_line s a) f t.lines t.stand none ∙ whole

-- ---- together

pub rows_say_alike : RowsSayAlike
rows_say_alike =
    record {
      itself = λ s a f. lines_say_alike.itself (row_line s a) (rows_due f) f;
      either_way = either_way;
      read_alike = read_alike;
      no_further = no_further;
      same_rows = same_rows;
      written = written_rows;
      without_zeros = without_zeros;
      only = only;
    }
