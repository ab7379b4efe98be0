-- Laws of lines in turn: all of them pass, or the first that does not gives the number.
-- Assumes nothing.
use Rattle.std.specs.Prelude.{Option, Some, None}
use mathlib.Core.Path.{◌≡◌, refl, sym, ap, ◌∙◌}
use mathlib.Core.Bool.{Bool, true, false, cond, ◌&&◌}
use mathlib.Core.Logic.{⊎_elim}
use mathlib.Core.List.{List, [], ◌∷◌, ◌++◌, append-nil}
use Prim.Native.Nat.{ℕ, zero, suc, ◌+◌, ◌*◌, ◌≤◌, ◌<◌}
use native.Mathlib.Nat.{le_refl, eq-or-lt_of_le, le_of_suc-le-suc, suc-mul, zero-add, zero-mul, add-suc, suc-add}
use native.Mathlib.Numerals.{add-one}
use native.Mathlib.Omega.{arith}
use lib.Dec.{eqb, leb}
use borrow.Author.Tests.{leb-true}
use lib.ListN.{length, drop, get_or, take, replicate, drop_of_length-le}
use lib.Seq.{drop-drop, get_or-drop}
use Rattle.laws.specs.Bounded.{tab_from, tab}
use Rattle.lines.specs.Inner.{due_status, DueRead}
use Rattle.lines.specs.Line.{field_of, Numbers, numbers, no_numbers, cons_field, fields_of, Due, ends, no_line, found, found_in, line_length, line_of}
use Rattle.lines.specs.Lines.{LineKind, Lines, lines, refused, cons_line, on_due, lines_of}
use Rattle.lines.specs.Places.{numbers_of, status_of, due_at, numbers_at, before_at, status_at, refusal_in, LinesRead}

-- ---- one line

-- a choice that gives 0 where the other is not 0
cond_zero : {A : Type 0} (t : Bool) (r : ℕ) (x y : A) → 0 < r → cond t 0 r ≡ 0 → cond t x y ≡ x
cond_zero true r x y h e = refl
cond_zero false r x y h e = absurd (omega arith)

cond_some : {A : Type 0} (t : Bool) (r : ℕ) (x y : A) → (cond t 0 r ≡ 0 → ⊥) → cond t x y ≡ y
cond_some true r x y h = absurd (h refl)
cond_some false r x y h = refl

cond_some_number : (t : Bool) (r : ℕ) → (cond t 0 r ≡ 0 → ⊥) → cond t 0 r ≡ r
cond_some_number true r h = absurd (h refl)
cond_some_number false r h = refl

-- a line that passes is followed by the others
step_good
    : (k : LineKind) (i : ℕ) (before : List ℕ) (d : Due) (f : List ℕ → Lines) → 0 < k.refusal → status_of k i before d ≡ 0
    → on_due d (λ ns. cond (k.good i before ns) (f ns) (refused k.refusal)) ≡ f (numbers_of d)
step_good k i before ends f h e = absurd (omega arith)
step_good k i before no_line f h e = absurd (omega arith)
step_good k i before (found ns) f h e = cond_zero (k.good i before ns) k.refusal (f ns) (refused k.refusal) h e

-- a line that does not is the end
step_bad
    : (k : LineKind) (i : ℕ) (before : List ℕ) (d : Due) (f : List ℕ → Lines) → (status_of k i before d ≡ 0 → ⊥)
    → on_due d (λ ns. cond (k.good i before ns) (f ns) (refused k.refusal)) ≡ refused (status_of k i before d)
step_bad k i before ends f h = refl
step_bad k i before no_line f h = refl
step_bad k i before (found ns) f h =
    cond_some (k.good i before ns) k.refusal (f ns) (refused k.refusal) h
    ∙ ap refused (sym (cond_some_number (k.good i before ns) k.refusal h))

-- the bytes past a line
past_line : (k : LineKind) (bytes : List ℕ) (i : ℕ)
    → drop (line_length k.count) (drop (i * line_length k.count) bytes) ≡ drop (suc i * line_length k.count) bytes
past_line k bytes i =
    let e : i * line_length k.count + line_length k.count ≡ suc i * line_length k.count = sym (suc-mul i (line_length k.count)) in
    drop-drop (line_length k.count) (i * line_length k.count) bytes ∙ ap (λ (n : ℕ). drop n bytes) e

-- ---- all of them

lines_from
    : (k : LineKind) (bytes : List ℕ) (c i : ℕ) → 0 < k.refusal → ((j : ℕ) → i ≤ j → j < i + c → status_at k bytes j ≡ 0)
    → lines_of k c i (before_at k bytes i) (drop (i * line_length k.count) bytes)
    ≡ lines (tab_from i c (numbers_at k bytes)) (drop ((i + c) * line_length k.count) bytes)
unfolding lines_of tab_from status_at due_at numbers_at before_at
lines_from k bytes zero i h p = let e : i + 0 ≡ i = omega arith in rw e
lines_from k bytes (suc c) i h p =
    step_good k i (before_at k bytes i) (due_at k bytes i)
    (λ ns. cons_line ns (lines_of k c (suc i) ns (drop (line_length k.count) (drop (i * line_length k.count) bytes)))) h
    (p i (le_refl i) (omega arith))
    ∙ rw (past_line k bytes i, lines_from k bytes c (suc i) h (λ j a b. p j (omega arith) (omega arith)), suc-add i c, ← add-suc i c)

-- lines that all pass
pub lines_all
    : (k : LineKind) (bytes : List ℕ) (c : ℕ) → 0 < k.refusal → ((j : ℕ) → j < c → status_at k bytes j ≡ 0)
    → lines_of k c 0 [] bytes ≡ lines (tab c (numbers_at k bytes)) (drop (c * line_length k.count) bytes)
unfolding tab before_at
lines_all k bytes c h p =
    let r = lines_from k bytes c 0 h (λ j a b. p j (rw (zero-add c) at b)) in
    rw (zero-add c, zero-mul (line_length k.count)) at r

-- ---- the first that does not pass

lines_stop_from
    : (k : LineKind) (bytes : List ℕ) (c i m : ℕ) → 0 < k.refusal → i ≤ m → m < i + c → ((j : ℕ) → i ≤ j → j < m → status_at k bytes j ≡ 0)
    → (status_at k bytes m ≡ 0 → ⊥)
    → lines_of k c i (before_at k bytes i) (drop (i * line_length k.count) bytes) ≡ refused (status_at k bytes m)
unfolding lines_of status_at due_at numbers_at before_at
lines_stop_from k bytes zero i m h a b p q = absurd (omega arith)
lines_stop_from k bytes (suc c) i m h a b p q =
    ⊎_elim
    (λ (e : i ≡ m).
    rw e
    (step_bad k m (before_at k bytes m) (due_at k bytes m)
    (λ ns. cons_line ns (lines_of k c (suc m) ns (drop (line_length k.count) (drop (m * line_length k.count) bytes)))) q))
    (λ (e : i < m).
    step_good k i (before_at k bytes i) (due_at k bytes i)
    (λ ns. cons_line ns (lines_of k c (suc i) ns (drop (line_length k.count) (drop (i * line_length k.count) bytes)))) h
    (p i (le_refl i) e)
    ∙ rw (past_line k bytes i, lines_stop_from k bytes c (suc i) m h e (omega arith) (λ j x y. p j (omega arith) y) q))
    (eq-or-lt_of_le a)

-- lines of which m is the first that does not pass
pub lines_stop
    : (k : LineKind) (bytes : List ℕ) (c m : ℕ) → 0 < k.refusal → m < c → ((j : ℕ) → j < m → status_at k bytes j ≡ 0)
    → (status_at k bytes m ≡ 0 → ⊥) → lines_of k c 0 [] bytes ≡ refused (status_at k bytes m)
unfolding before_at
lines_stop k bytes c m h b p q =
    let r = lines_stop_from k bytes c 0 m h (omega arith) (omega arith) (λ j a b. p j b) q in
    rw (zero-mul (line_length k.count)) at r

-- ---- the loops over lines

-- one line more has passed
pub passed_more
    : (k : LineKind) (bytes : List ℕ) (i : ℕ) → ((j : ℕ) → j < i → status_at k bytes j ≡ 0) → status_at k bytes i ≡ 0
    → (j : ℕ) → j < i + 1 → status_at k bytes j ≡ 0
passed_more k bytes i p q j h =
    ⊎_elim (λ (e : j ≡ i). rw e q) (λ (e : j < i). p j e) (eq-or-lt_of_le (le_of_suc-le-suc (rw (add-one i) at h)))

-- a loop left at its bound
pub read_all
    : (k : LineKind) (bytes : List ℕ) (c i : ℕ) → i ≡ c → 0 < k.refusal → ((j : ℕ) → j < i → status_at k bytes j ≡ 0)
    → i * line_length k.count ≤ length bytes → LinesRead k bytes c 0
read_all k bytes c i e h p w = record {
  refusal = rw (lines_all k bytes c h (λ j l. p j (omega arith)));
  passed = λ z j l. p j (omega arith);
  within = λ z. rw (← e) w;
}

-- a loop left at a line that does not pass
pub read_stop
    : (k : LineKind) (bytes : List ℕ) (c i s : ℕ) → i < c → 0 < k.refusal → ((j : ℕ) → j < i → status_at k bytes j ≡ 0)
    → s ≡ status_at k bytes i → (s ≡ 0 → ⊥) → LinesRead k bytes c s
read_stop k bytes c i s l h p e q = record {
  refusal = e ∙ sym (ap refusal_in (lines_stop k bytes c i h l p (λ z. q (e ∙ z))));
  passed = λ z. absurd (q z);
  within = λ z. absurd (q z);
}

-- ---- a line that is read into lent numbers

-- nothing, or no line
stops : (k : LineKind) (i : ℕ) (before : List ℕ) (d : Due) → (due_status d ≡ 0 → ⊥) → due_status d ≡ status_of k i before d
stops k i before ends q = refl
stops k i before no_line q = refl
stops k i before (found ns) q = absurd (q refl)

-- a line, whose numbers decide
tested : (k : LineKind) (i : ℕ) (before : List ℕ) (d : Due) → due_status d ≡ 0 → cond (k.good i before (numbers_of d)) 0 k.refusal ≡ status_of k i before d
tested k i before ends e = absurd (omega arith)
tested k i before no_line e = absurd (omega arith)
tested k i before (found ns) e = refl

-- a line is found with its numbers
found_there : (d : Due) → due_status d ≡ 0 → d ≡ found (numbers_of d)
found_there ends e = let z : ◌≡◌ {A = ℕ} 3 0 = e in absurd (omega arith)
found_there no_line e = let z : ◌≡◌ {A = ℕ} 4 0 = e in absurd (omega arith)
found_there (found ns) e = refl

-- a test that passes among three
second_of : (a b c : Bool) (d : Due) → due_status (cond (a && b && c) d no_line) ≡ 0 → b ≡ true
second_of true true c d e = refl
second_of true false c d e = let z : ◌≡◌ {A = ℕ} 4 0 = e in absurd (omega arith)
second_of false b c d e = let z : ◌≡◌ {A = ℕ} 4 0 = e in absurd (omega arith)

-- a line has its bytes
line_long : (letter k : ℕ) (bytes : List ℕ) → due_status (line_of letter k bytes) ≡ 0 → line_length k ≤ length bytes
unfolding line_of
line_long letter k [] e = let z : ◌≡◌ {A = ℕ} 3 0 = e in absurd (omega arith)
line_long letter k (b ∷ bs) e =
    let m = leb-true (k * 6 + 1) (length bs) (second_of (eqb b letter) (leb (k * 6 + 1) (length bs)) (eqb (get_or bs (k * 6) 0) 10) (found_in (fields_of k bs)) e) in
    omega arith

-- zeros everywhere
pub zeros_at : (n j : ℕ) → ◌≡◌ {A = ℕ} (get_or (replicate n 0) j 0) 0
zeros_at zero j = refl
zeros_at (suc n) zero = refl
zeros_at (suc n) (suc j) = zeros_at n j

-- zeros past some numbers, or none
zeros_past : (ns : List ℕ) (n k i : ℕ) → get_or (ns ++ drop k (replicate n 0)) i 0 ≡ get_or ns i 0
zeros_past [] n k i = get_or-drop k (replicate n 0) i 0 ∙ zeros_at n (k + i)
zeros_past (x ∷ ns) n k zero = refl
zeros_past (x ∷ ns) n k (suc i) = zeros_past ns n k i

module _ (k : LineKind) (i : ℕ) (before bytes : List ℕ) {l m : List ℕ} {r : ℕ} (e : DueRead (line_of k.letter k.count bytes) k.count l m r) where
  -- what is due
  abbrev due : Due
  due = line_of k.letter k.count bytes

  -- nothing, or no line
  pub due_stops : (r ≡ 0 → ⊥) → r ≡ status_of k i before due
  due_stops q = e.status ∙ stops k i before due (λ z. q (e.status ∙ z))

  module _ (z : r ≡ 0) where
    -- a line
    is_line : due_status due ≡ 0
    is_line = sym e.status ∙ z

    -- a line whose numbers pass, or fail, the test of its kind
    pub due_tested : (t : Bool) {ns : List ℕ} → ns ≡ numbers_of due → k.good i before ns ≡ t → cond t 0 k.refusal ≡ status_of k i before due
    due_tested t same g = rw (← g, same) (tested k i before due is_line)

    -- its bytes
    pub due_long : line_length k.count ≤ length bytes
    due_long = line_long k.letter k.count bytes is_line

    -- as many numbers lent as it has fields
    pub due_whole : length l ≡ k.count → m ≡ numbers_of due
    due_whole h = e.numbers z ∙ rw (drop_of_length-le l {i = k.count} (omega arith)) (append-nil (numbers_of due))

    -- so the line is found with them
    pub due_found : length l ≡ k.count → due ≡ found m
    due_found h = found_there due is_line ∙ ap found (sym (due_whole h))

    -- more of them lent, all zero
    pub due_number : (n j : ℕ) → l ≡ replicate n 0 → get_or m j 0 ≡ get_or (numbers_of due) j 0
    due_number n j h = rw (e.numbers z, h) (zeros_past (numbers_of due) n k.count j)

-- a test that gives the same at another place and after another line
status_test
    : (k : LineKind) (i j : ℕ) (b c : List ℕ) (d : Due) → ((ns : List ℕ) → k.good i b ns ≡ k.good j c ns) → status_of k i b d ≡ status_of k j c d
status_test k i j b c ends h = refl
status_test k i j b c no_line h = refl
status_test k i j b c (found ns) h = rw (h ns)

-- ---- a line of the file, at its place among those that begin at `start`

module _ (k : LineKind) (file : List ℕ) (start i : ℕ) where
  -- the bytes from there on
  place : drop (i * line_length k.count) (drop start file) ≡ drop (start + i * line_length k.count) file
  place = drop-drop (i * line_length k.count) start file

  -- its status, by a test that gives the same
  pub status_here
      : (j : ℕ) (before : List ℕ) (s : ℕ) → ((ns : List ℕ) → k.good j before ns ≡ k.good i (before_at k (drop start file) i) ns)
      → s ≡ status_of k j before (line_of k.letter k.count (drop (start + i * line_length k.count) file))
      → s ≡ status_at k (drop start file) i
  unfolding status_at due_at
  status_here j before s h e =
      e ∙ ap (λ (b : List ℕ). status_of k j before (line_of k.letter k.count b)) (sym place)
      ∙ status_test k j i before (before_at k (drop start file) i)
      (line_of k.letter k.count (drop (i * line_length k.count) (drop start file))) h

  -- its numbers
  pub numbers_here
      : numbers_of (line_of k.letter k.count (drop (start + i * line_length k.count) file)) ≡ numbers_at k (drop start file) i
  unfolding numbers_at due_at
  numbers_here = ap (λ (b : List ℕ). numbers_of (line_of k.letter k.count b)) (sym place)

-- ---- how many numbers a line has

-- as many numbers as fields, where there are any
abbrev Long : Numbers → ℕ → Type 0
Long (numbers ns) k = length ns ≡ k
Long no_numbers k = ◌≡◌ {A = ℕ} 0 0

cons_long : (f : Option ℕ) (m : Numbers) (k : ℕ) → Long m k → Long (cons_field f m) (suc k)
cons_long (Some n) (numbers ns) k h = ap suc h
cons_long (Some n) no_numbers k h = refl
cons_long None (numbers ns) k h = refl
cons_long None no_numbers k h = refl

fields_long : (k : ℕ) (bytes : List ℕ) → Long (fields_of k bytes) k
unfolding fields_of
fields_long zero bytes = refl
fields_long (suc k) bytes = cons_long (field_of (take 6 bytes)) (fields_of k (drop 6 bytes)) k (fields_long k (drop 6 bytes))

found_long : (m : Numbers) (k : ℕ) → Long m k → due_status (found_in m) ≡ 0 → length (numbers_of (found_in m)) ≡ k
found_long (numbers ns) k h e = h
found_long no_numbers k h e = let z : ◌≡◌ {A = ℕ} 4 0 = e in absurd (omega arith)

cond_long
    : (t : Bool) (d : Due) (k : ℕ) → (due_status d ≡ 0 → length (numbers_of d) ≡ k) → due_status (cond t d no_line) ≡ 0
    → length (numbers_of (cond t d no_line)) ≡ k
cond_long true d k h e = h e
cond_long false d k h e = let z : ◌≡◌ {A = ℕ} 4 0 = e in absurd (omega arith)

-- a line that is there has as many numbers as fields
pub due_length
    : (letter k : ℕ) (bytes : List ℕ) → due_status (line_of letter k bytes) ≡ 0 → length (numbers_of (line_of letter k bytes)) ≡ k
unfolding line_of
due_length letter k [] e = let z : ◌≡◌ {A = ℕ} 3 0 = e in absurd (omega arith)
due_length letter k (b ∷ bs) e =
    cond_long (eqb b letter && leb (k * 6 + 1) (length bs) && eqb (get_or bs (k * 6) 0) 10) (found_in (fields_of k bs)) k
    (found_long (fields_of k bs) k (fields_long k bs)) e

-- a line that passes is there
passing_line : (k : LineKind) (i : ℕ) (before : List ℕ) (d : Due) → status_of k i before d ≡ 0 → due_status d ≡ 0
passing_line k i before ends e = absurd (omega arith)
passing_line k i before no_line e = absurd (omega arith)
passing_line k i before (found ns) e = refl

-- so has a line that passes
pub passed_length : (k : LineKind) (bytes : List ℕ) (i : ℕ) → status_at k bytes i ≡ 0 → length (numbers_at k bytes i) ≡ k.count
unfolding status_at due_at numbers_at before_at
passed_length k bytes i e =
    due_length k.letter k.count (drop (i * line_length k.count) bytes)
    (passing_line k i (before_at k bytes i) (line_of k.letter k.count (drop (i * line_length k.count) bytes)) e)
