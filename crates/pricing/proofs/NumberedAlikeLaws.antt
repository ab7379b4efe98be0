-- Files of numbered lines alike are read alike, as lines of any kind are. A numbered line is its place and its number, so files of the same numbers have the
-- same lines, and so has the file that is written of these.
-- Assumes nothing.
use mathlib.Core.Path.{◌≡◌, refl, sym, ap, ◌∙◌}
use mathlib.Core.Bool.{true}
use mathlib.Core.List.{List, [], ◌∷◌, ◌++◌, append-nil}
use Prim.Native.Nat.{ℕ}
use native.Mathlib.Omega.{arith}
use lib.ListN.{length, replicate, length-map}
use Rattle.lines.specs.Line.{at, write_lines}
use Rattle.lines.specs.Lines.{LineKind, lines_of}
use Rattle.lines.specs.Alike.{Equal, NoZerosOver, all_due, AlikeFiles}
use Rattle.lines.specs.Written.{Stand, GoodLines, good_none, Good-more}
use Rattle.lines.proofs.SpelledLines.{written_stand}
use Rattle.lines.proofs.AlikeLaws.{alike_stand, stand_length, ReadAlike, alike_by, exact_no_zeros, exact_only, turned_alike, due_alike, files_alike}
use Rattle.pricing.specs.Numbered.{good_numbered, numbered_line, numbers_in, column_read, column_in, write_column, ColumnFile}
use Rattle.pricing.specs.NumberedAlike.{NumberedSayAlike}
use Rattle.pricing.proofs.NumberedLaws.{placed, column_written, numbered_says}

-- files that are read alike are one column
columns_alike : (k : LineKind) (c : ℕ) (f g : List ℕ) → ReadAlike (lines_of k c 0 [] f) (lines_of k c 0 [] g) → column_in k c f ≡ column_in k c g
unfolding column_in
columns_alike k c f g a = alike_by column_read (λ ls b d rest other. refl) a

-- ---- numbered lines

module _ (letter limit refusal : ℕ) where
  -- such lines
  abbrev kind : LineKind
  kind = numbered_line letter limit refusal

  -- a line is its place and its number
  line_is
      : (i : ℕ) (before ns : List ℕ) → length ns ≡ 2 → good_numbered limit i before ns ≡ true → ns ≡ i ∷ at ns 1 ∷ []
  line_is i before [] two good = absurd (omega arith)
  line_is i before (a ∷ []) two good = absurd (omega arith)
  line_is i before (a ∷ b ∷ []) two good =
      ap {B = List ℕ} (λ x. x ∷ b ∷ []) ((numbered_says.test limit i before (a ∷ b ∷ [])).0 good).0
  line_is i before (a ∷ b ∷ d ∷ ns) two good = absurd (omega arith)

  -- good lines are their numbers, each beside its place
  lines_placed : {i : ℕ} {before : List ℕ} {ls : List (List ℕ)} → GoodLines kind i before ls → ls ≡ placed i (numbers_in ls)
  unfolding placed
  lines_placed good_none = refl
  lines_placed (Good-more {i} {before} {ns} {ls} count fit good more) =
      ap (λ (l : List ℕ). l ∷ ls) (line_is i before ns count good)
      ∙ ap {B = List (List ℕ)} (λ l. (i ∷ at ns 1 ∷ []) ∷ l) (lines_placed more)

  -- so those of the same numbers are the same
  same_numbered
      : {i : ℕ} {before after : List ℕ} {ls ms : List (List ℕ)} → GoodLines kind i before ls → GoodLines kind i after ms
      → numbers_in ls ≡ numbers_in ms → ls ≡ ms
  same_numbered {i} g h e = lines_placed g ∙ ap (placed i) e ∙ sym (lines_placed h)

  -- and they are written as their numbers are
  lines_written
      : {i : ℕ} {before : List ℕ} {ls : List (List ℕ)} → GoodLines kind i before ls
      → write_lines letter ls ≡ write_column letter i (numbers_in ls)
  lines_written {i} {ls = ls} g = ap (write_lines letter) (lines_placed g) ∙ sym (column_written letter i (numbers_in ls))

  module _ (c : ℕ) (numbers : List ℕ) where
    -- files of the same numbers are alike
    same_numbers
        : (f g : List ℕ) → ColumnFile kind c f numbers → ColumnFile kind c g numbers → AlikeFiles kind c f g
    same_numbers f g l m =
        let same = same_numbered l.stand.good m.stand.good (sym l.are ∙ m.are) in
        let stand : Stand kind g l.lines [] = rw same m.stand.stand in
        record {
          long = stand_length kind l.lines f [] l.stand.stand ∙ sym (stand_length kind l.lines g [] stand);
          due = replicate (length l.lines) kind.count ++ [];
          lines = all_due l.stand;
          over = alike_stand Equal kind l.lines [] f g [] [] l.stand.stand stand refl;
        }

    module _ (file : List ℕ) (l : ColumnFile kind c file numbers) where
      -- the lines as they are written
      whole : write_lines letter l.lines ≡ write_column letter 0 numbers
      whole = lines_written l.stand.good ∙ ap (write_column letter 0) (sym l.are)

      -- a line for each number
      counted : length numbers ≡ c
      counted = ap length l.are ∙ length-map l.lines (λ (ns : List ℕ). at ns 1) ∙ l.stand.count

      -- the file written of the numbers has them
      written_file : ColumnFile kind c (write_column letter 0 numbers) numbers
      written_file =
          record {
            lines = l.lines;
            stand =
                record {
                  count = l.stand.count;
                  good = l.stand.good;
                  stand = rw (← whole, ← append-nil (write_lines letter l.lines)) (written_stand kind [] l.stand.good);
                };
            are = l.are;
          }

      -- it has no zeros
      without_zeros : NoZerosOver (replicate (length numbers) 2) (write_column letter 0 numbers)
      without_zeros = rw (counted, ← whole) (exact_no_zeros kind file l.lines l.stand)

      -- no other file of the numbers has none
      only : NoZerosOver (replicate (length numbers) 2) file → file ≡ write_column letter 0 numbers
      only none = exact_only kind file l.lines l.stand (rw (← counted) none) ∙ whole

-- ---- together

-- what is said of files alike
pub numbered_say_alike : NumberedSayAlike
numbered_say_alike =
    record {
      read_alike = λ k c f g a. columns_alike k c f g (files_alike k c f g a);
      turned_back = λ k c f g r b a. columns_alike k c f g (turned_alike k c f g r b a);
      no_further = λ k c f g due long d a. columns_alike k c f g (due_alike k c f g due long d a);
      same_numbers = λ letter limit refusal c f g numbers. same_numbers letter limit refusal c numbers f g;
      written = λ letter limit refusal c file numbers l.
          same_numbers letter limit refusal c numbers (write_column letter 0 numbers) file
          (written_file letter limit refusal c numbers file l) l;
      without_zeros = λ letter limit refusal c file numbers. without_zeros letter limit refusal c numbers file;
      only = λ letter limit refusal c file numbers. only letter limit refusal c numbers file;
    }
