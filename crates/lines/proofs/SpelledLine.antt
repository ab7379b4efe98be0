-- A line is read exactly where it stands in the bytes: its letter and its end byte by their places, its fields by their laws, one after
-- the other. The line written of some numbers stands where it is written, and of all that stand with these numbers it is the one whose
-- fields have no zeros.
-- Assumes nothing.
use Rattle.std.specs.Prelude.{Option, Some, None}
use Prim.Native.Nat.{ℕ, zero, suc, ◌+◌, ◌*◌, ◌≤◌, ◌<◌}
use mathlib.Core.Path.{◌≡◌, refl, sym, ap, ◌∙◌}
use mathlib.Core.Logic.{◌↔◌, by_cases}
use mathlib.Core.Bool.{Bool, true, false, cond, ◌&&◌, and-eq-true_iff}
use mathlib.Core.List.{List, [], ◌∷◌, ◌++◌, append_assoc}
use native.Mathlib.Decide.{dec_lt}
use native.Mathlib.Numerals.{add-one}
use native.Mathlib.Omega.{arith}
use lib.Dec.{eqb, leb}
use lib.ListN.{length, take, drop, get_or, length-append, length-drop, take-append-drop, get_or-eq_default}
use lib.Seq.{length-take-le, take-length, drop-drop, drop-cons, take_at, drop_at}
use borrow.Author.Tests.{le-leb, eq-eqb, leb-true, eqb-true}
use Rattle.lines.specs.Line.{field, fields, line, at, field_of, Numbers, numbers, no_numbers, cons_field, fields_of, ends, no_line, found, found_in, line_length, line_of}
use Rattle.lines.specs.Written.{Fits, columns_of, LineAt, NoZeros, LineSays}
use Rattle.lines.proofs.LineLaws.{fields_from}
use Rattle.lines.proofs.SpelledField.{holds_read, field_length, field_holds, field_no_zeros, holds_field, field_exact}

-- three tests joined by `and`
pub all_three : (t u v : Bool) → ((t && u && v) ≡ true) ↔ ((t ≡ true) × (u ≡ true) × (v ≡ true))
all_three t u v = (
  λ h.
      let outer = (and-eq-true_iff (t && u) v).0 h in
      let inner = (and-eq-true_iff t u).0 outer.0 in
      (inner.0, inner.1, outer.1),
  λ s. rw (s.0, s.1, s.2),
)

-- ---- fields

-- a field more is written
pub fields_cons : (n : ℕ) (ns : List ℕ) → fields (n ∷ ns) ≡ field n ++ fields ns
unfolding fields
fields_cons n ns = refl

-- the columns of some fields
pub fields_length : (ns : List ℕ) → length (fields ns) ≡ length ns * 6
unfolding fields
fields_length [] = refl
fields_length (n ∷ ns) =
    ap length (fields_cons n ns) ∙ length-append (field n) (fields ns) ∙ omega (arith, field_length n, fields_length ns)

-- one number more
pub fits_cons : (n : ℕ) (ns : List ℕ) → n < 1000000 → Fits ns → Fits (n ∷ ns)
fits_cons n ns h hs zero = h
fits_cons n ns h hs (suc i) = hs i

-- the columns of a field that is written
fields_column
    : (ns rest : List ℕ) (i : ℕ) → i < length ns → take 6 (drop (i * 6) (fields ns ++ rest)) ≡ field (at ns i)
unfolding fields
fields_column [] rest i h = absurd (omega arith)
fields_column (n ∷ ns) rest zero h =
    ap (take 6) (append_assoc (field n) (fields ns) rest) ∙ take_at (field n) (fields ns ++ rest) 6 (field_length n)
fields_column (n ∷ ns) rest (suc i) h =
    let places : 6 + i * 6 ≡ suc i * 6 = omega arith in
    ap (λ (x : ℕ). take 6 (drop x (fields (n ∷ ns) ++ rest))) (sym places)
    ∙ ap (take 6) (sym (drop-drop (i * 6) 6 (fields (n ∷ ns) ++ rest)))
    ∙ ap (λ (l : List ℕ). take 6 (drop (i * 6) (drop 6 l))) (append_assoc (field n) (fields ns) rest)
    ∙ ap (λ (l : List ℕ). take 6 (drop (i * 6) l)) (drop_at (field n) (fields ns ++ rest) 6 (field_length n))
    ∙ fields_column ns rest i (omega arith)

-- fields that are written of their numbers, one after the other
fields_whole
    : (k : ℕ) (bytes ns : List ℕ) → length ns ≡ k → ((i : ℕ) → i < k → take 6 (drop (i * 6) bytes) ≡ field (at ns i))
    → bytes ≡ fields ns ++ drop (k * 6) bytes
unfolding fields
fields_whole zero bytes [] c h = refl
fields_whole zero bytes (n ∷ ns) c h = absurd (omega arith)
fields_whole (suc k) bytes [] c h = absurd (omega arith)
fields_whole (suc k) bytes (n ∷ ns) c h =
    let past : (i : ℕ) → drop (i * 6) (drop 6 bytes) ≡ drop (suc i * 6) bytes =
    λ i. let places : 6 + i * 6 ≡ suc i * 6 = omega arith in drop-drop (i * 6) 6 bytes ∙ ap (λ (x : ℕ). drop x bytes) places in
    let more = fields_whole k (drop 6 bytes) ns (omega arith) (λ i l. ap (take 6) (past i) ∙ h (suc i) (omega arith)) in
    sym (take-append-drop 6 bytes) ∙ ap (λ (l : List ℕ). l ++ drop 6 bytes) (h 0 (omega arith))
    ∙ ap (λ (l : List ℕ). field n ++ l) (more ∙ ap (λ (l : List ℕ). fields ns ++ l) (past k))
    ∙ sym (append_assoc (field n) (fields ns) (drop (suc k * 6) bytes))

-- what a field before some fields is
cons_found
    : (f : Option ℕ) (r : Numbers) (ns : List ℕ) → cons_field f r ≡ numbers ns
    → (m : ℕ) × (ms : List ℕ) × (f ≡ Some m) × (r ≡ numbers ms) × (ns ≡ m ∷ ms)
cons_found (Some m) (numbers ms) ns e = (m, ms, refl, refl, cc)
cons_found (Some m) no_numbers ns e = let z : ◌≡◌ {A = ℕ} 0 1 = cc in absurd (omega arith)
cons_found None (numbers ms) ns e = let z : ◌≡◌ {A = ℕ} 0 1 = cc in absurd (omega arith)
cons_found None no_numbers ns e = let z : ◌≡◌ {A = ℕ} 0 1 = cc in absurd (omega arith)

-- k fields that are read as numbers, one by one
fields_exact
    : (k : ℕ) (bytes ns : List ℕ) → fields_of k bytes ≡ numbers ns
    → (length ns ≡ k) × ((i : ℕ) → i < k → field_of (take 6 (drop (i * 6) bytes)) ≡ Some (at ns i))
unfolding fields_of
fields_exact zero bytes ns e = let none : ns ≡ [] = cc in rw none (refl, λ i h. absurd (omega arith))
fields_exact (suc k) bytes ns e =
    let (m, ms, f, r, eq) = cons_found (field_of (take 6 bytes)) (fields_of k (drop 6 bytes)) ns e in
    let (count, each) = fields_exact k (drop 6 bytes) ms r in
    rw eq (ap suc count, go m ms f each)
  where
    go
        : (m : ℕ) (ms : List ℕ) → field_of (take 6 bytes) ≡ Some m
        → ((i : ℕ) → i < k → field_of (take 6 (drop (i * 6) (drop 6 bytes))) ≡ Some (at ms i))
        → (i : ℕ) → i < suc k → field_of (take 6 (drop (i * 6) bytes)) ≡ Some (at (m ∷ ms) i)
    go m ms f each zero h = f
    go m ms f each (suc i) h =
        let places : 6 + i * 6 ≡ suc i * 6 = omega arith in
        ap (λ (x : ℕ). field_of (take 6 (drop x bytes))) (sym places)
        ∙ ap (λ (l : List ℕ). field_of (take 6 l)) (sym (drop-drop (i * 6) 6 bytes)) ∙ each i (omega arith)

-- ---- lines

-- the bytes from a line on
line_form : (letter : ℕ) (ns rest : List ℕ) → line letter ns ++ rest ≡ letter ∷ (fields ns ++ (10 ∷ rest))
line_form letter ns rest = ap {B = List ℕ} (λ l. letter ∷ l) (append_assoc (fields ns) (10 ∷ []) rest)

-- the bytes of a line
pub line_length_lem : (letter : ℕ) (ns : List ℕ) → length (line letter ns) ≡ line_length (length ns)
line_length_lem letter ns = ap suc (length-append (fields ns) (10 ∷ [])) ∙ omega (arith, fields_length ns)

-- what follows a line
pub line_drop : (letter : ℕ) (ns rest : List ℕ) → drop (line_length (length ns)) (line letter ns ++ rest) ≡ rest
line_drop letter ns rest = drop_at (line letter ns) rest (line_length (length ns)) (line_length_lem letter ns)

-- ---- a byte by its place

-- the byte at a place that the bytes have
byte_at : (l : List ℕ) (p b : ℕ) → take 1 (drop p l) ≡ b ∷ [] → (p < length l) × (get_or l p 0 ≡ b)
byte_at [] zero b e = let z : ◌≡◌ {A = ℕ} 0 1 = cc in absurd (omega arith)
byte_at [] (suc p) b e = let z : ◌≡◌ {A = ℕ} 0 1 = cc in absurd (omega arith)
byte_at (x ∷ xs) zero b e = (omega arith, cc)
byte_at (x ∷ xs) (suc p) b e = let r = byte_at xs p b e in (omega (arith, r.0), r.1)

-- that byte and those after it
byte_there : (l : List ℕ) (p b : ℕ) → p < length l → get_or l p 0 ≡ b → drop p l ≡ b ∷ drop (suc p) l
byte_there l p b h e = drop-cons l p 0 h ∙ ap {B = List ℕ} (λ (x : ℕ). x ∷ drop (suc p) l) e

-- ---- a line that stands in the bytes

-- the bytes past the letter, by their places
past_letter : (b p : ℕ) (bs : List ℕ) → drop (p + 1) (b ∷ bs) ≡ drop p bs
past_letter b p bs = rw (add-one p)

-- it has its bytes
pub line_long : {letter k : ℕ} {bytes ns : List ℕ} → LineAt letter k bytes ns → line_length k ≤ length bytes
line_long {k} {bytes} l = omega (arith, (byte_at bytes (k * 6 + 1) 10 l.last).0)

-- its numbers have at most six digits
pub line_fits : {letter k : ℕ} {bytes ns : List ℕ} → LineAt letter k bytes ns → Fits ns
line_fits {k} {ns} l i =
    by_cases (dec_lt i k)
    (λ (h : i < k). (l.fields i h).small)
    (λ g. omega (arith, get_or-eq_default ns 0 {n = i} (omega (arith, l.count))))

-- it is found
pub line_found : (letter k : ℕ) (bytes ns : List ℕ) → LineAt letter k bytes ns → line_of letter k bytes ≡ found ns
unfolding line_of
line_found letter k [] ns l = let z : ◌≡◌ {A = ℕ} 0 1 = cc l.first in absurd (omega arith)
line_found letter k (b ∷ bs) ns l =
    let (room, end) = byte_at bs (k * 6) 10 (ap (take 1) (sym (past_letter b (k * 6) bs)) ∙ l.last) in
    let all : take k ns ≡ ns = ap (λ (x : ℕ). take x ns) (sym l.count) ∙ take-length ns in
    let read : fields_of k bs ≡ numbers ns =
    fields_from (b ∷ bs) ns k 0 (omega (arith, l.count)) (λ i p h. holds_read (columns_of i (b ∷ bs)) (at ns i) (l.fields i (omega arith)))
    ∙ ap numbers all in
    rw (
      eq-eqb b letter (cc l.first),
      le-leb (k * 6 + 1) (length bs) (omega arith),
      eq-eqb (get_or bs (k * 6) 0) 10 end,
      read,
    )

-- numbers that are found are those that are read
found_in_lem : (r : Numbers) (ns : List ℕ) → found_in r ≡ found ns → r ≡ numbers ns
found_in_lem (numbers ms) ns e = cc
found_in_lem no_numbers ns e = let z : ◌≡◌ {A = ℕ} 0 1 = cc in absurd (omega arith)

-- what is found stands there
pub found_line : (letter k : ℕ) (bytes ns : List ℕ) → line_of letter k bytes ≡ found ns → LineAt letter k bytes ns
unfolding line_of
found_line letter k [] ns e = let z : ◌≡◌ {A = ℕ} 0 1 = cc in absurd (omega arith)
found_line letter k (b ∷ bytes) ns e = go (eqb b letter && leb (k * 6 + 1) (length bytes) && eqb (get_or bytes (k * 6) 0) 10) refl e
  where
    go
        : (t : Bool) → (eqb b letter && leb (k * 6 + 1) (length bytes) && eqb (get_or bytes (k * 6) 0) 10) ≡ t
        → cond t (found_in (fields_of k bytes)) no_line ≡ found ns → LineAt letter k (b ∷ bytes) ns
    go false t d = let z : ◌≡◌ {A = ℕ} 0 1 = cc in absurd (omega arith)
    go true t d =
        let (same, room, last) = (all_three (eqb b letter) (leb (k * 6 + 1) (length bytes)) (eqb (get_or bytes (k * 6) 0) 10)).0 t in
        let long = leb-true (k * 6 + 1) (length bytes) room in
        let (count, each) = fields_exact k bytes ns (found_in_lem (fields_of k bytes) ns d) in
        record {
          count = count;
          first = ap {B = List ℕ} (λ (x : ℕ). x ∷ []) (eqb-true b letter same);
          fields = λ i h.
              rw (past_letter b (i * 6) bytes)
              (field_exact (take 6 (drop (i * 6) bytes)) (at ns i) (length-take-le 6 (drop (i * 6) bytes) (simp length-drop (omega arith)))
              (each i h));
          last =
              ap (take 1)
              (past_letter b (k * 6) bytes ∙ byte_there bytes (k * 6) 10 (omega arith) (eqb-true (get_or bytes (k * 6) 0) 10 last));
        }

-- ---- a line that is written

-- the columns of its fields
written_columns
    : (letter : ℕ) (ns rest : List ℕ) (i : ℕ) → i < length ns → columns_of i (line letter ns ++ rest) ≡ field (at ns i)
written_columns letter ns rest i h =
    ap (columns_of i) (line_form letter ns rest) ∙ ap (take 6) (past_letter letter (i * 6) (fields ns ++ (10 ∷ rest)))
    ∙ fields_column ns (10 ∷ rest) i h

-- it stands where it is written
pub line_written : (letter : ℕ) (ns rest : List ℕ) → Fits ns → LineAt letter (length ns) (line letter ns ++ rest) ns
line_written letter ns rest fit =
    record {
      count = refl;
      first = ap (take 1) (line_form letter ns rest);
      fields = λ i h. rw (written_columns letter ns rest i h) (field_holds (at ns i) (fit i));
      last =
          ap (λ (l : List ℕ). take 1 (drop (length ns * 6 + 1) l)) (line_form letter ns rest)
          ∙ ap (take 1) (past_letter letter (length ns * 6) (fields ns ++ (10 ∷ rest)))
          ∙ ap (take 1) (drop_at (fields ns) (10 ∷ rest) (length ns * 6) (fields_length ns));
    }

-- its fields have no zeros
pub written_no_zeros
    : (letter : ℕ) (ns rest : List ℕ) → Fits ns → (i : ℕ) → i < length ns → NoZeros (columns_of i (line letter ns ++ rest))
written_no_zeros letter ns rest fit i h = rw (written_columns letter ns rest i h) (field_no_zeros (at ns i) (fit i))

-- a line whose fields have no zeros is as it is written
pub line_only
    : (letter k : ℕ) (bytes ns : List ℕ) → LineAt letter k bytes ns → ((i : ℕ) → i < k → NoZeros (columns_of i bytes))
    → bytes ≡ line letter ns ++ drop (line_length k) bytes
line_only letter k [] ns l none = let z : ◌≡◌ {A = ℕ} 0 1 = cc l.first in absurd (omega arith)
line_only letter k (b ∷ bytes) ns l none =
    let (room, end) = byte_at bytes (k * 6) 10 (ap (take 1) (sym (past_letter b (k * 6) bytes)) ∙ l.last) in
    let whole =
    fields_whole k bytes ns l.count
    (λ i h.
    ap (take 6) (sym (past_letter b (i * 6) bytes)) ∙ holds_field (columns_of i (b ∷ bytes)) (at ns i) (l.fields i h) (none i h)) in
    let same : b ≡ letter = cc l.first in
    let places : line_length k ≡ suc (suc (k * 6)) = omega arith in
    ap {B = List ℕ} (λ (x : ℕ). x ∷ bytes) same
    ∙ ap {B = List ℕ} (λ (l : List ℕ). letter ∷ l) (whole ∙ ap (λ (l : List ℕ). fields ns ++ l) (byte_there bytes (k * 6) 10 room end))
    ∙ sym (line_form letter ns (drop (suc (k * 6)) bytes))
    ∙ ap (λ (x : ℕ). line letter ns ++ drop x (b ∷ bytes)) (sym places)

-- a line is read back
pub line_read : (letter : ℕ) (ns rest : List ℕ) → Fits ns → line_of letter (length ns) (line letter ns ++ rest) ≡ found ns
line_read letter ns rest fit = line_found letter (length ns) (line letter ns ++ rest) ns (line_written letter ns rest fit)

-- what reading a line says
pub line_says : LineSays
line_says =
    record {
      found_there = λ letter k bytes ns. (found_line letter k bytes ns, line_found letter k bytes ns);
      written = line_written;
      only = line_only;
    }

-- the bytes end where a line is due exactly where there is none
pub ends_says : (letter k : ℕ) (bytes : List ℕ) → (line_of letter k bytes ≡ ends) ↔ (bytes ≡ [])
unfolding line_of
ends_says letter k [] = (λ e. refl, λ e. refl)
ends_says letter k (b ∷ bytes) = (
  go (eqb b letter && leb (k * 6 + 1) (length bytes) && eqb (get_or bytes (k * 6) 0) 10) (fields_of k bytes),
  λ e. let z : ◌≡◌ {A = ℕ} 0 1 = cc in absurd (omega arith),
)
  where
    go : (t : Bool) (r : Numbers) → cond t (found_in r) no_line ≡ ends → b ∷ bytes ≡ []
    go false r d = let z : ◌≡◌ {A = ℕ} 0 1 = cc in absurd (omega arith)
    go true (numbers ns) d = let z : ◌≡◌ {A = ℕ} 0 1 = cc in absurd (omega arith)
    go true no_numbers d = let z : ◌≡◌ {A = ℕ} 0 1 = cc in absurd (omega arith)
