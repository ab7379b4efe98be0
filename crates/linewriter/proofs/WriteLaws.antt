-- Laws of writing: a field is its last digit and before it columns of digits or spaces, and stores in turn are fields and lines.
-- Assumes nothing.
use Prim.Native.Nat.{ℕ, zero, suc, ◌+◌, ◌-◌, ◌*◌, ◌/◌, ◌%◌, ◌^◌, ◌≤◌, ◌<◌}
use mathlib.Core.Path.{◌≡◌, refl, sym, ap, ◌∙◌}
use mathlib.Core.Logic.{by_cases}
use mathlib.Core.List.{List, [], ◌∷◌, ◌++◌}
use native.Mathlib.Nat.{pow-suc, not-suc-le-zero, le_of_suc-le-suc}
use native.Mathlib.Decide.{dec_lt}
use native.Mathlib.Numerals.{add-one}
use native.Mathlib.Omega.{arith}
use borrow.Author.Tests.{ne_eqb}
use lib.ListN.{length, get_or, drop, set, replicate, length-set, length-append, drop_of_length-le}
use lib.Seq.{sets, length-sets, drop-cons}
use Rattle.laws.proofs.Sets.{sets_append, set_sets}
use Rattle.lines.specs.Line.{decimal, field, fields, line}
use Rattle.lines.specs.Field.{column_of, EachFits}
use Rattle.lines.proofs.SpelledField.{decimal_digit, decimal_step, field_length, field_of_spaces}
use Rattle.lines.proofs.SpelledLine.{fields_cons, fields_length}

-- ---- a field

-- k columns with the last digits of n, or spaces, before a list
unfoldable pub columns : ℕ → ℕ → List ℕ → List ℕ
columns zero n rest = rest
columns (suc k) n rest = columns k (n / 10) (column_of n ∷ rest)

-- spaces where no digit is left
columns_none : (k : ℕ) (rest : List ℕ) → columns k 0 rest ≡ replicate k 32 ++ rest
unfolding columns
columns_none zero rest = refl
columns_none (suc k) rest = columns_none k (32 ∷ rest) ∙ space_in k rest
  where
    space_in : (m : ℕ) (l : List ℕ) → replicate m 32 ++ (32 ∷ l) ≡ 32 ∷ (replicate m 32 ++ l)
    space_in zero l = refl
    space_in (suc m) l = ap {B = List ℕ} (λ r. 32 ∷ r) (space_in m l)

-- the columns of a number's other digits are spaces and those digits
columns_decimal
    : (k n : ℕ) (rest : List ℕ) → n < 10 ^ suc k
    → (m : ℕ) × (columns k (n / 10) ((48 + n % 10) ∷ rest) ≡ replicate m 32 ++ decimal (suc k) n rest)
unfolding columns
columns_decimal zero n rest h =
    let one : n % 10 ≡ n = omega arith in
    (0, rw one (sym (decimal_digit 0 n rest h)))
columns_decimal (suc k) n rest h =
    by_cases (dec_lt n 10)
    (λ (l : n < 10).
    let none : n / 10 ≡ 0 = omega arith in
    let one : n % 10 ≡ n = omega arith in
    (suc k, rw (none, one) (columns_none (suc k) ((48 + n) ∷ rest) ∙ ap (λ (r : List ℕ). replicate (suc k) 32 ++ r) (sym (decimal_digit (suc k) n rest l)))))
    (λ (g : n < 10 → ⊥).
    let (m, e) = columns_decimal k (n / 10) ((48 + n % 10) ∷ rest) (omega (arith, pow-suc 10 (suc k))) in
    (m, rw (ne_eqb (n / 10) 0 (omega arith)) e ∙ ap (λ (r : List ℕ). replicate m 32 ++ r) (sym (decimal_step (suc k) n rest (omega arith)))))

-- how many there are
columns_length : (k n : ℕ) (rest : List ℕ) → length (columns k n rest) ≡ k + length rest
unfolding columns
columns_length zero n rest = omega arith
columns_length (suc k) n rest = columns_length k (n / 10) (column_of n ∷ rest) ∙ omega arith

-- a field is its last digit and five columns before it
field_columns : (n : ℕ) → n < 1000000 → columns 5 (n / 10) ((48 + n % 10) ∷ []) ≡ field n
field_columns n h =
    let (m, e) = columns_decimal 5 n [] h in
    field_of_spaces (columns 5 (n / 10) ((48 + n % 10) ∷ [])) m n (columns_length 5 (n / 10) ((48 + n % 10) ∷ [])) e

-- columns before others
columns_append : (k n : ℕ) (xs ys : List ℕ) → columns k n xs ++ ys ≡ columns k n (xs ++ ys)
unfolding columns
columns_append zero n xs ys = refl
columns_append (suc k) n xs ys = columns_append k (n / 10) (column_of n ∷ xs) ys

-- columns of v's field stand from at + k on, and k are due, of the number `rest`; after them its last digit
pub record Columns (l out : List ℕ) (at v rest k : ℕ) : Type 0 where
  pub few : k ≤ 5
  pub long : length out ≡ length l
  pub put : List ℕ
  pub stored : out ≡ sets l (at + k) put
  pub due : columns k rest put ++ ((48 + v % 10) ∷ []) ≡ field v

-- all are due
pub columns_start : (l : List ℕ) (at v : ℕ) → v < 1000000 → Columns l l at v (v / 10) 5
columns_start l at v h =
    record {
      few = omega arith;
      long = refl;
      put = [];
      stored = refl;
      due = columns_append 5 (v / 10) [] ((48 + v % 10) ∷ []) ∙ field_columns v h;
    }

-- a column more
pub columns_more
    : (l out : List ℕ) (at v rest k b : ℕ) → 0 < k → b ≡ column_of rest → Columns l out at v rest k
    → Columns l (set out (at + (k - 1)) b) at v (rest / 10) (k - 1)
unfolding columns
columns_more l out at v rest zero b p e c = absurd (omega arith)
columns_more l out at v rest (suc k) b p e c =
    let back : suc k - 1 ≡ k = omega arith in
    let next : at + suc k ≡ suc (at + k) = omega arith in
    rw (back, e) (record {
      few = omega (arith, c.few);
      long = length-set out (at + k) (column_of rest) ∙ c.long;
      put = column_of rest ∷ c.put;
      stored = rw (c.stored, next) (set_sets l (suc (at + k)) c.put (at + k) (column_of rest) (omega arith));
      due = c.due;
    })

-- all of them, and the last digit
pub columns_end
    : (l out : List ℕ) (at v rest k b : ℕ) → k ≡ 0 → b ≡ 48 + v % 10 → Columns l out at v rest k
    → set out (at + 5) b ≡ sets l at (field v)
unfolding columns
columns_end l out at v rest k b e d c =
    let whole : c.put ++ ((48 + v % 10) ∷ []) ≡ field v = rw e at c.due in
    let five : length c.put ≡ 5 =
    omega (arith, ap length whole, length-append c.put ((48 + v % 10) ∷ []), field_length v) in
    let here : at + k ≡ at = omega arith in
    rw (c.stored, here, d, ← five, ← whole) (sym (sets_append l at c.put ((48 + v % 10) ∷ [])))

-- ---- fields and lines

-- the first k fields of ns are stored, and the others are due
pub record Stored (l out : List ℕ) (at : ℕ) (ns : List ℕ) (k : ℕ) : Type 0 where
  pub few : k ≤ length ns
  pub long : length out ≡ length l
  pub due : sets out (at + k * 6) (fields (drop k ns)) ≡ sets l at (fields ns)

-- the number of a field has at most six digits
pub each_fits : (ns : List ℕ) (k : ℕ) → k < length ns → EachFits ns → get_or ns k 0 < 1000000
each_fits [] k h e = absurd (not-suc-le-zero h)
each_fits (n ∷ ns) zero h e = e.0
each_fits (n ∷ ns) (suc k) h e = each_fits ns k (le_of_suc-le-suc h) e.1

-- none is stored
pub stored_start : (l : List ℕ) (at : ℕ) (ns : List ℕ) → Stored l l at ns 0
stored_start l at ns = record {
  few = omega arith;
  long = refl;
  due = let here : at + 0 * 6 ≡ at = omega arith in rw here;
}

-- a field more
pub stored_more
    : (l out m : List ℕ) (at : ℕ) (ns : List ℕ) (k : ℕ) → k < length ns → Stored l out at ns k
    → m ≡ sets out (at + k * 6) (field (get_or ns k 0)) → Stored l m at ns (k + 1)
stored_more l out m at ns k h s e =
    let n = get_or ns k 0 in
    let next : at + suc k * 6 ≡ at + k * 6 + length (field n) = omega (arith, field_length n) in
    let step : fields (drop k ns) ≡ field n ++ fields (drop (suc k) ns) =
    ap fields (drop-cons ns k 0 h) ∙ fields_cons n (drop (suc k) ns) in
    rw (add-one k) (record {
      few = omega arith;
      long = rw e (length-sets out (at + k * 6) (field n)) ∙ s.long;
      due =
          rw (e, next)
          (sym (sets_append out (at + k * 6) (field n) (fields (drop (suc k) ns)))
          ∙ ap (sets out (at + k * 6)) (sym step) ∙ s.due);
    })

-- all of them
pub stored_end : (l out : List ℕ) (at : ℕ) (ns : List ℕ) (k : ℕ) → length ns ≤ k → Stored l out at ns k → out ≡ sets l at (fields ns)
unfolding fields
stored_end l out at ns k h s = rw (drop_of_length-le ns {i = k} h) at s.due

-- the letter and the fields leave the length
pub Fields-keep
    : (l out : List ℕ) (at letter : ℕ) (ns : List ℕ) → out ≡ sets (set l at letter) (at + 1) (fields ns) → length out ≡ length l
Fields-keep l out at letter ns e = rw e (length-sets (set l at letter) (at + 1) (fields ns) ∙ length-set l at letter)

-- the letter, the fields and the end byte
pub line_stored
    : (l out : List ℕ) (at letter : ℕ) (ns : List ℕ) → out ≡ sets (set l at letter) (at + 1) (fields ns)
    → set out (at + (length ns * 6 + 1)) 10 ≡ sets l at (line letter ns)
line_stored l out at letter ns e =
    let past : at + (length ns * 6 + 1) ≡ suc at + length (fields ns) = omega (arith, fields_length ns) in
    let next : at + 1 ≡ suc at = omega arith in
    rw (e, past, next) (sym (sets_append (set l at letter) (suc at) (fields ns) (10 ∷ [])))
