-- Laws of lines, in the shape of the code that reads them.
-- Assumes nothing.
use Rattle.std.specs.Prelude.{Option, Some, None}
use mathlib.Core.Path.{◌≡◌, refl, sym, ap, subst, ◌∙◌}
use mathlib.Core.Bool.{Bool, true, false, ◌&&◌}
use mathlib.Core.Logic.{⊎_elim}
use mathlib.Core.List.{List, [], ◌∷◌, ◌++◌}
use Prim.Native.Nat.{ℕ, zero, suc, ◌+◌, ◌-◌, ◌*◌, ◌≤◌, ◌<◌}
use native.Mathlib.Nat.{le_refl, not-suc-le-zero, eq-or-lt_of_le, ne_of_lt, le_of_suc-le-suc}
use native.Mathlib.Numerals.{add-one}
use native.Mathlib.Omega.{arith}
use lib.Dec.{lit<, eqb, leb}
use lib.ListN.{length, take, drop, get_or, set, length-set, length-drop, take-append-drop}
use Rattle.lines.proofs.FieldLaws.{slice_part}
use lib.Seq.{length-take-le, take-take, drop-drop, drop-cons, drop-set-lt, get_or-take, get_or-set_same, get_or-set_other}
use borrow.Author.Tests.{eq-eqb, ne_eqb, le-leb, lt-leb}
use Rattle.lines.specs.Inner.{due_status, Framed, DueRead}
use Rattle.lines.specs.Line.{field_of, Numbers, numbers, no_numbers, cons_field, fields_of, found_in, line_of}

-- ---- fields, by their places

-- a line's field k
abbrev pub field_at : List ℕ → ℕ → Option ℕ
field_at l k = field_of (take 6 (drop (k * 6 + 1) l))

-- the bytes past a field
past_field : (l : List ℕ) (i : ℕ) → drop 6 (drop (i * 6 + 1) l) ≡ drop (suc i * 6 + 1) l
past_field l i = let e : i * 6 + 1 + 6 ≡ suc i * 6 + 1 = omega arith in drop-drop 6 (i * 6 + 1) l ∙ ap (λ (n : ℕ). drop n l) e

-- fields that are all numbers, those of a list from its place i on
pub fields_from
    : (l ns : List ℕ) (c i : ℕ) → i + c ≤ length ns → ((k : ℕ) → i ≤ k → k < i + c → field_at l k ≡ Some (get_or ns k 0))
    → fields_of c (drop (i * 6 + 1) l) ≡ numbers (take c (drop i ns))
unfolding fields_of
fields_from l ns zero i m h = refl
fields_from l ns (suc c) i m h =
    rw (
      h i (le_refl i) (omega arith),
      past_field l i,
      fields_from l ns c (suc i) (omega arith) (λ k p q. h k (omega arith) (omega arith)),
      drop-cons ns i 0 (omega arith),
    )

-- a field that is none, before any others
cons_malformed : (ns : Numbers) → cons_field None ns ≡ no_numbers
cons_malformed (numbers ns) = refl
cons_malformed no_numbers = refl

-- any field before one that is none
cons_none : (f : Option ℕ) → cons_field f no_numbers ≡ no_numbers
cons_none (Some n) = refl
cons_none None = refl

-- fields of which one is none
fields_none_from
    : (l : List ℕ) (c i k : ℕ) → i ≤ k → k < i + c → field_at l k ≡ None → fields_of c (drop (i * 6 + 1) l) ≡ no_numbers
unfolding fields_of
fields_none_from l zero i k h m e = absurd (omega arith)
fields_none_from l (suc c) i k h m e =
    ⊎_elim
    (λ (q : i ≡ k). rw (q, e) (cons_malformed (fields_of c (drop 6 (drop (k * 6 + 1) l)))))
    (λ (q : i < k). rw (past_field l i, fields_none_from l c (suc i) k q (omega arith) e) (cons_none (field_at l i)))
    (eq-or-lt_of_le h)

-- ---- the loop over the fields

-- the first k fields are read into the numbers l, which now are m
pub record FieldsRead (line l m : List ℕ) (k : ℕ) : Type 0 where
  pub exact : (j : ℕ) → j < k → field_at line j ≡ Some (get_or m j 0)
  pub rest : drop k m ≡ drop k l
  pub long : length m ≡ length l

-- no field is read yet
pub fields_start : (line l : List ℕ) → FieldsRead line l l 0
fields_start line l = record { exact = λ j h. absurd (not-suc-le-zero h); rest = refl; long = refl }

-- one field more
pub fields_more
    : (line l m : List ℕ) (k n : ℕ) (f : Option ℕ) → k < length l → FieldsRead line l m k → f ≡ field_at line k → f ≡ Some n
    → FieldsRead line l (set m k n) (k + 1)
fields_more line l m k n f h r e q = record {
  exact = λ j s.
      ⊎_elim
      (λ (p : j ≡ k). rw (p, get_or-set_same m k n 0 (omega (arith, r.long))) (sym e ∙ q))
      (λ (p : j < k). rw (get_or-set_other m k j n 0 (ne_of_lt p)) (r.exact j p))
      (eq-or-lt_of_le (le_of_suc-le-suc (rw (add-one k) at s)));
  rest = drop-set-lt (k + 1) m k n (omega arith) ∙ sym (drop-drop 1 k m) ∙ ap (drop 1) r.rest ∙ drop-drop 1 k l;
  long = length-set m k n ∙ r.long;
}

-- a field that is no number
pub fields_stop
    : (line l m : List ℕ) (k count : ℕ) → k < count → field_at line k ≡ None → DueRead (found_in (fields_of count (drop 1 line))) count l m 4
fields_stop line l m k count h e =
    rw (fields_none_from line count 0 k (omega arith) (omega arith) e) (record { status = refl; numbers = λ z. absurd (omega arith) })

-- all fields are read
pub fields_end
    : (line l m : List ℕ) (k count : ℕ) → k ≡ count → count ≤ length l → FieldsRead line l m k
    → DueRead (found_in (fields_of count (drop 1 line))) count l m 0
fields_end line l m k count e h r =
    let rest : drop count m ≡ drop count l = rw e at r.rest in
    rw (fields_from line m count 0 (omega (arith, r.long)) (λ j p q. r.exact j (omega arith)))
    (record { status = refl; numbers = λ z. sym (take-append-drop count m) ∙ ap (λ (x : List ℕ). take count m ++ x) rest })

-- ---- the whole line

-- a test that fails among three
first_fails : (a b c : Bool) → a ≡ false → (a && b && c) ≡ false
first_fails a b c e = rw e

second_fails : (a b c : Bool) → b ≡ false → (a && b && c) ≡ false
second_fails true b c e = rw e
second_fails false b c e = refl

third_fails : (a b c : Bool) → c ≡ false → (a && b && c) ≡ false
third_fails true true c e = e
third_fails true false c e = refl
third_fails false b c e = refl

-- fields need no more than their columns
fields_take : (k m : ℕ) (xs : List ℕ) → k * 6 ≤ m → fields_of k (take m xs) ≡ fields_of k xs
unfolding fields_of
fields_take zero m xs h = refl
fields_take (suc k) m xs h =
    let e : m ≡ 6 + (m - 6) = omega arith in
    let rest : drop 6 (take m xs) ≡ take (m - 6) (drop 6 xs) = subst (λ (n : ℕ). drop 6 (take n xs) ≡ take (m - 6) (drop 6 xs)) (sym e) (slice_part 6 (m - 6) xs) in
    rw (take-take 6 m xs (omega arith), rest, fields_take k (m - 6) (drop 6 xs) (omega arith))

-- no such line
no_such : (letter k : ℕ) (bytes : List ℕ) (r : ℕ) → 0 < r → r ≡ due_status (line_of letter k bytes) → Framed letter k bytes r
no_such letter k bytes r h e = record { stops = λ z. e; line = λ z. absurd (omega arith); within = λ z. absurd (omega arith) }

-- the file ends
pub due_ends : (letter k : ℕ) (bytes : List ℕ) → length bytes ≡ 0 → Framed letter k bytes 3
unfolding line_of
due_ends letter k [] e = no_such letter k [] 3 (lit< tt) refl
due_ends letter k (b ∷ bs) e = absurd (omega arith)

-- no such line, by a test that fails
test_fails
    : (letter k b : ℕ) (bs : List ℕ) → (eqb b letter && leb (k * 6 + 1) (length bs) && eqb (get_or bs (k * 6) 0) 10) ≡ false
    → Framed letter k (b ∷ bs) 4
unfolding line_of
test_fails letter k b bs e = no_such letter k (b ∷ bs) 4 (lit< tt) (rw e)

-- too few bytes
pub due_short : (letter k : ℕ) (bytes : List ℕ) → 0 < length bytes → length bytes < k * 6 + 2 → Framed letter k bytes 4
due_short letter k [] h m = absurd (not-suc-le-zero h)
due_short letter k (b ∷ bs) h m =
    test_fails letter k b bs
    (second_fails (eqb b letter) (leb (k * 6 + 1) (length bs)) (eqb (get_or bs (k * 6) 0) 10) (lt-leb (k * 6 + 1) (length bs) (omega arith)))

-- the first byte of the line
first_of : (k b : ℕ) (line bs : List ℕ) → line ≡ take (k * 6 + 2) (b ∷ bs) → get_or line 0 0 ≡ b
first_of k b line bs e = rw e (get_or-take (k * 6 + 2) (b ∷ bs) 0 0 (omega arith))

-- its last byte
last_of : (k b : ℕ) (line bs : List ℕ) → line ≡ take (k * 6 + 2) (b ∷ bs) → get_or line (k * 6 + 2 - 1) 0 ≡ get_or bs (k * 6) 0
last_of k b line bs e =
    let p : k * 6 + 2 - 1 ≡ suc (k * 6) = omega arith in
    rw (e, p) (get_or-take (k * 6 + 2) (b ∷ bs) (suc (k * 6)) 0 (omega arith))

-- another letter
pub due_letter
    : (letter k : ℕ) (bytes line : List ℕ) → 0 < length bytes → line ≡ take (k * 6 + 2) bytes → (get_or line 0 0 ≡ letter → ⊥)
    → Framed letter k bytes 4
due_letter letter k [] line h e p = absurd (not-suc-le-zero h)
due_letter letter k (b ∷ bs) line h e p =
    test_fails letter k b bs
    (first_fails (eqb b letter) (leb (k * 6 + 1) (length bs)) (eqb (get_or bs (k * 6) 0) 10)
    (ne_eqb b letter (λ q. p (first_of k b line bs e ∙ q))))

-- another end byte
pub due_end_byte
    : (letter k : ℕ) (bytes line : List ℕ) → 0 < length bytes → line ≡ take (k * 6 + 2) bytes → (get_or line (k * 6 + 2 - 1) 0 ≡ 10 → ⊥)
    → Framed letter k bytes 4
due_end_byte letter k [] line h e p = absurd (not-suc-le-zero h)
due_end_byte letter k (b ∷ bs) line h e p =
    test_fails letter k b bs
    (third_fails (eqb b letter) (leb (k * 6 + 1) (length bs)) (eqb (get_or bs (k * 6) 0) 10)
    (ne_eqb (get_or bs (k * 6) 0) 10 (λ q. p (last_of k b line bs e ∙ q))))

-- a line that has its letter and its end byte
pub due_frame
    : (letter k : ℕ) (bytes line : List ℕ) → k * 6 + 2 ≤ length bytes → line ≡ take (k * 6 + 2) bytes → get_or line 0 0 ≡ letter
    → get_or line (k * 6 + 2 - 1) 0 ≡ 10 → Framed letter k bytes 0
unfolding line_of
due_frame letter k [] line h e p q = absurd (omega arith)
due_frame letter k (b ∷ bs) line h e p q =
    let n : k * 6 + 2 ≡ suc (k * 6 + 1) = omega arith in
    let fields : fields_of k (drop 1 (take (k * 6 + 2) (b ∷ bs))) ≡ fields_of k bs =
    rw n (fields_take k (k * 6 + 1) bs (omega arith)) in
    record {
      stops = λ z. absurd (z refl);
      line = λ z.
          rw (
            eq-eqb b letter (sym (first_of k b line bs e) ∙ p),
            le-leb (k * 6 + 1) (length bs) (omega arith),
            eq-eqb (get_or bs (k * 6) 0) 10 (sym (last_of k b line bs e) ∙ q),
            fields,
          );
      within = λ z. h;
    }

-- its bytes
pub frame_length
    : (letter k : ℕ) (bytes line : List ℕ) (r : ℕ) → Framed letter k bytes r → r ≡ 0 → line ≡ take (k * 6 + 2) bytes → length line ≡ k * 6 + 2
frame_length letter k bytes line r f z e = rw e (length-take-le (k * 6 + 2) bytes (f.within z))

-- no such line, whatever the lent numbers
pub due_none
    : (letter k : ℕ) (bytes l : List ℕ) (r : ℕ) → Framed letter k bytes r → (r ≡ 0 → ⊥) → DueRead (line_of letter k bytes) k l l r
due_none letter k bytes l r f q = record { status = f.stops q; numbers = λ z. absurd (q z) }

-- a line whose fields decide
pub due_fields
    : (letter k : ℕ) (bytes line l m : List ℕ) (r s : ℕ) → Framed letter k bytes r → r ≡ 0 → line ≡ take (k * 6 + 2) bytes
    → DueRead (found_in (fields_of k (drop 1 line))) k l m s → DueRead (line_of letter k bytes) k l m s
due_fields letter k bytes line l m r s f z e d = rw (f.line z, ← e) d

-- the bytes of a part of the file
pub line_length_lem : (l : List ℕ) (at n : ℕ) (line : List ℕ) → at + n ≤ length l → line ≡ take n (drop at l) → length line ≡ n
line_length_lem l at n line h e = rw e (length-take-le n (drop at l) (rw length-drop (omega arith)))
