-- Files of numbered lines: the test of a line, the numbers that are read, the file that is written of numbers, and the line that is due.
-- Lines that are read are those that stand in the file; numbers within their limit are written as good lines.
-- Assumes nothing.
use Rattle.std.specs.Prelude.{Option, Some, None}
use mathlib.Core.Path.{◌≡◌, refl, sym, ap, ◌∙◌}
use mathlib.Core.Logic.{◌↔◌}
use mathlib.Core.Bool.{Bool, true, false, cond, and-eq-true_iff}
use mathlib.Core.List.{List, [], ◌∷◌, ◌++◌, append-nil}
use Prim.Native.Nat.{ℕ, zero, suc, ◌+◌, ◌≤◌, ◌<◌}
use native.Mathlib.Omega.{arith}
use lib.Dec.{eqb, leb}
use lib.ListN.{length, get_or}
use borrow.Author.Tests.{eq-eqb, le-leb, eqb-true, leb-true}
use Rattle.lines.specs.Line.{line, at, write_lines, Due, ends, no_line, found}
use Rattle.lines.specs.Lines.{LineKind, Lines, lines, refused, lines_of}
use Rattle.lines.specs.Places.{numbers_of as numbers_due, status_of}
use Rattle.lines.specs.Written.{Fits, GoodLines, good_none, Good-more, LinesAt}
use Rattle.lines.proofs.SpelledLine.{fits_cons}
use Rattle.lines.proofs.SpelledLines.{written_stand, lines_says}
use Rattle.pricing.specs.Numbered.{good_numbered, numbered_line, Column, column, not_these_lines, numbers_in, column_read, column_in, write_column, ColumnFile, NumberedSays}
use Rattle.pricing.specs.Inner.{number_due}

-- ---- the test of a line

-- its place, and a number up to the limit
numbered_test
    : (limit i : ℕ) (before ns : List ℕ) → (good_numbered limit i before ns ≡ true) ↔ ((at ns 0 ≡ i) × (at ns 1 ≤ limit))
numbered_test limit i before ns = (
  λ t.
      let both = (and-eq-true_iff (eqb (at ns 0) i) (leb (at ns 1) limit)).0 t in
      (eqb-true (at ns 0) i both.0, leb-true (at ns 1) limit both.1),
  λ w. (and-eq-true_iff (eqb (at ns 0) i) (leb (at ns 1) limit)).1 (eq-eqb (at ns 0) i w.0, le-leb (at ns 1) limit w.1),
)

-- ---- reading

-- lines that stand alone in the file are read
column_read_lem
    : (k : LineKind) (c : ℕ) (file : List ℕ) (ls : List (List ℕ)) → LinesAt k c 0 [] file ls [] → column_in k c file ≡ column (numbers_in ls)
unfolding column_in
column_read_lem k c file ls l = ap column_read ((lines_says k c 0 [] file ls []).1 l)

-- a file that is refused at a line has no numbers
pub column_refused : (k : LineKind) (c : ℕ) (file : List ℕ) (r : ℕ) → lines_of k c 0 [] file ≡ refused r → column_in k c file ≡ not_these_lines
unfolding column_in
column_refused k c file r e = ap column_read e

-- the numbers of a column
abbrev numbers_of : Column → List ℕ
numbers_of (column ns) = ns
numbers_of not_these_lines = []

-- columns have a number of their own
abbrev tag : Column → ℕ
tag (column ns) = 1
tag not_these_lines = 0

-- what is read is exactly these lines
column_file
    : (k : LineKind) (c : ℕ) (file numbers : List ℕ) → column_in k c file ≡ column numbers → ColumnFile k c file numbers
unfolding column_in
column_file k c file numbers e = go (lines_of k c 0 [] file) refl e
  where
    none : not_these_lines ≡ column numbers → ColumnFile k c file numbers
    none e = let z : ◌≡◌ {A = ℕ} 0 1 = ap tag e in absurd (omega arith)

    go : (x : Lines) → lines_of k c 0 [] file ≡ x → column_read x ≡ column numbers → ColumnFile k c file numbers
    go (lines ls []) is e =
        record { lines = ls; stand = (lines_says k c 0 [] file ls []).0 is; are = sym (ap numbers_of e) }
    go (lines ls (b ∷ rest)) is e = none e
    go (refused r) is e = none e

-- both ways
pub column_says
    : (k : LineKind) (c : ℕ) (file numbers : List ℕ) → (column_in k c file ≡ column numbers) ↔ ColumnFile k c file numbers
column_says k c file numbers = (
  column_file k c file numbers,
  λ f. column_read_lem k c file f.lines f.stand ∙ ap column (sym f.are),
)

-- there are no numbers if and only if the file is not exactly such lines
pub no_column_says
    : (k : LineKind) (c : ℕ) (file : List ℕ)
    → (column_in k c file ≡ not_these_lines) ↔ ((numbers : List ℕ) → ColumnFile k c file numbers → ⊥)
no_column_says k c file = (
  λ e numbers f. let z : ◌≡◌ {A = ℕ} 0 1 = ap tag (sym e ∙ (column_says k c file numbers).1 f) in omega arith,
  λ none. go none (column_in k c file) refl,
)
  where
    go : ((numbers : List ℕ) → ColumnFile k c file numbers → ⊥) → (x : Column) → column_in k c file ≡ x → column_in k c file ≡ not_these_lines
    go none (column numbers) e = absurd (none numbers ((column_says k c file numbers).0 e))
    go none not_these_lines e = e

-- ---- writing

-- the numbers of the lines, from place i on
unfoldable pub placed : ℕ → List ℕ → List (List ℕ)
placed i [] = []
placed i (n ∷ ns) = (i ∷ n ∷ []) ∷ placed (suc i) ns

-- they are what is written
pub column_written : (letter i : ℕ) (ns : List ℕ) → write_column letter i ns ≡ write_lines letter (placed i ns)
unfolding write_column write_lines placed
column_written letter i [] = refl
column_written letter i (n ∷ ns) = ap (λ (l : List ℕ). line letter (i ∷ n ∷ []) ++ l) (column_written letter (suc i) ns)

-- a line for each number
placed_length : (i : ℕ) (ns : List ℕ) → length (placed i ns) ≡ length ns
unfolding placed
placed_length i [] = refl
placed_length i (n ∷ ns) = ap suc (placed_length (suc i) ns)

-- the numbers are those beside the places
placed_numbers : (i : ℕ) (ns : List ℕ) → numbers_in (placed i ns) ≡ ns
unfolding placed
placed_numbers i [] = refl
placed_numbers i (n ∷ ns) = ap {B = List ℕ} (λ l. n ∷ l) (placed_numbers (suc i) ns)

-- a place and a number of few digits
pair_fits : (i n : ℕ) → i < 1000000 → n < 1000000 → Fits (i ∷ n ∷ [])
pair_fits i n a b = fits_cons i (n ∷ []) a (fits_cons n [] b (λ k. omega arith))

-- they are good lines
placed_good
    : (letter limit refusal i : ℕ) (before ns : List ℕ) → limit < 1000000 → i + length ns ≤ 1000000
    → ((k : ℕ) → get_or ns k 0 ≤ limit) → GoodLines (numbered_line letter limit refusal) i before (placed i ns)
unfolding placed
placed_good letter limit refusal i before [] small few within = good_none
placed_good letter limit refusal i before (n ∷ ns) small few within =
    let here : n ≤ limit = within 0 in
    Good-more refl (pair_fits i n (omega arith) (omega arith)) ((numbered_test limit i before (i ∷ n ∷ [])).1 (refl, here))
    (placed_good letter limit refusal (suc i) (i ∷ n ∷ []) ns small (omega arith) (λ k. within (suc k)))

-- the file written of numbers within the limit has them
pub written_column
    : (letter limit refusal : ℕ) (numbers : List ℕ) → limit < 1000000 → length numbers ≤ 1000000
    → ((i : ℕ) → get_or numbers i 0 ≤ limit)
    → column_in (numbered_line letter limit refusal) (length numbers) (write_column letter 0 numbers) ≡ column numbers
written_column letter limit refusal numbers small few within =
    let k = numbered_line letter limit refusal in
    let ls = placed 0 numbers in
    let good = placed_good letter limit refusal 0 [] numbers small (omega arith) within in
    let whole : write_lines letter ls ++ [] ≡ write_column letter 0 numbers =
    append-nil (write_lines letter ls) ∙ sym (column_written letter 0 numbers) in
    column_read_lem k (length numbers) (write_column letter 0 numbers) ls
    (record { count = placed_length 0 numbers; good = good; stand = rw (← whole) (written_stand k [] good) })
    ∙ ap column (placed_numbers 0 numbers)

-- what is said of such files
pub numbered_says : NumberedSays
numbered_says = record { test = numbered_test; read = column_says; written = written_column }

-- ---- the numbers of good lines

-- each is within the limit; past the last it is 0
numbers_within
    : (letter limit refusal : ℕ) {i : ℕ} {before : List ℕ} {ls : List (List ℕ)}
    → GoodLines (numbered_line letter limit refusal) i before ls → (n : ℕ) → get_or (numbers_in ls) n 0 ≤ limit
numbers_within letter limit refusal good_none n = omega arith
numbers_within letter limit refusal (Good-more {i} {before} {ns} count fit good more) zero = ((numbered_test limit i before ns).0 good).1
numbers_within letter limit refusal (Good-more count fit good more) (suc n) = numbers_within letter limit refusal more n

-- so are those that are read
pub column_within
    : (letter limit refusal c : ℕ) (file numbers : List ℕ) → ColumnFile (numbered_line letter limit refusal) c file numbers
    → (n : ℕ) → get_or numbers n 0 ≤ limit
column_within letter limit refusal c file numbers f n = rw f.are (numbers_within letter limit refusal f.stand.good n)

-- and each line has its place
places_good
    : (letter limit refusal : ℕ) {i : ℕ} {before : List ℕ} {ls : List (List ℕ)}
    → GoodLines (numbered_line letter limit refusal) i before ls → (n : ℕ) → n < length ls → at (get_or ls n []) 0 ≡ i + n
places_good letter limit refusal good_none n l = absurd (omega arith)
places_good letter limit refusal (Good-more {i} {before} {ns} count fit good more) zero l =
    omega (arith, ((numbered_test limit i before ns).0 good).0)
places_good letter limit refusal (Good-more count fit good more) (suc n) l =
    omega (arith, places_good letter limit refusal more n (omega arith))

-- so has each line of a file that is read
pub column_places
    : (letter limit refusal c : ℕ) (file numbers : List ℕ) (f : ColumnFile (numbered_line letter limit refusal) c file numbers)
    → (n : ℕ) → n < c → at (get_or f.lines n []) 0 ≡ n
column_places letter limit refusal c file numbers f n l =
    omega (arith, places_good letter limit refusal f.stand.good n (omega (arith, f.stand.count)))

-- ---- the line that is due

-- a field's number, and whether there is one
abbrev number_in : Option ℕ → ℕ
number_in (Some n) = n
number_in None = 0

abbrev is_number : Option ℕ → ℕ
is_number (Some n) = 1
is_number None = 0

-- a line whose test has this outcome
tested_number : (t : Bool) (ns : List ℕ) (v : ℕ) → cond t (Some (at ns 1)) None ≡ Some v → (t ≡ true) × (at ns 1 ≡ v)
tested_number true ns v e = (refl, ap number_in e)
tested_number false ns v e = let z : ◌≡◌ {A = ℕ} 0 1 = ap is_number e in absurd (omega arith)

tested_none : (t : Bool) (r : ℕ) (ns : List ℕ) → 0 < r → cond t (Some (at ns 1)) None ≡ None → cond t 0 r ≡ 0 → ⊥
tested_none true r ns some e z = let one : ◌≡◌ {A = ℕ} 1 0 = ap is_number e in omega arith
tested_none false r ns some e z = omega arith

module _ (letter limit refusal i : ℕ) (before : List ℕ) where
  -- one that passes, with the number beside its place
  pub due_number
      : (d : Due) (v : ℕ) → number_due limit i d ≡ Some v
      → (status_of (numbered_line letter limit refusal) i before d ≡ 0) × (at (numbers_due d) 1 ≡ v) × (v ≤ limit)
  due_number ends v e = let z : ◌≡◌ {A = ℕ} 0 1 = ap is_number e in absurd (omega arith)
  due_number no_line v e = let z : ◌≡◌ {A = ℕ} 0 1 = ap is_number e in absurd (omega arith)
  due_number (found ns) v e =
      let good = tested_number (good_numbered limit i [] ns) ns v e in
      let within = (numbered_test limit i [] ns).0 good.0 in
      (ap (λ (t : Bool). cond t 0 refusal) good.0, good.1, omega (arith, within.1, good.1))

  -- one that does not
  pub due_none : (d : Due) → 0 < refusal → number_due limit i d ≡ None → status_of (numbered_line letter limit refusal) i before d ≡ 0 → ⊥
  due_none ends some e z = omega arith
  due_none no_line some e z = omega arith
  due_none (found ns) some e z = tested_none (good_numbered limit i [] ns) refusal ns some e z
