-- A field is six columns: it is read as a number exactly where it holds that number, spaces, zeros and the number's digits; and the field
-- written of a number is the one without zeros. Both ways go digit by digit, from the number's last digit to its first.
-- Assumes nothing.
use Rattle.std.specs.Prelude.{Some, None}
use Prim.Native.Nat.{ℕ, zero, suc, ◌+◌, ◌-◌, ◌*◌, ◌/◌, ◌%◌, ◌^◌, ◌≤◌, ◌<◌}
use mathlib.Core.Path.{◌≡◌, refl, sym, ap, ◌∙◌}
use mathlib.Core.Logic.{◌≢◌, by_cases}
use mathlib.Core.Bool.{Bool, true, false, cond, and-eq-true_iff}
use mathlib.Core.List.{List, [], ◌∷◌, ◌++◌, append-nil}
use native.Mathlib.Nat.{zero-add, pow-suc}
use native.Mathlib.Decide.{ℕ_discrete, dec_lt}
use native.Mathlib.Omega.{arith}
use lib.Dec.{eqb}
use lib.ListN.{length, replicate, length-append, length-replicate}
use borrow.Author.Tests.{lt-ltb, le-ltb, le-leb, leb-true, eqb-true}
use Rattle.lines.specs.Line.{decimal, field, is_digit, digits_of, field_of}
use Rattle.lines.specs.Written.{Holds, NoZeros, FieldSays}
use Rattle.lines.proofs.FieldLaws.{digit_leads}

-- ---- digits

-- a number of one digit
pub decimal_digit : (k n : ℕ) (rest : List ℕ) → n < 10 → decimal (suc k) n rest ≡ (48 + n) ∷ rest
unfolding decimal
decimal_digit k n rest l = rw (lt-ltb n 10 l)

-- the last digit of a longer number
pub decimal_step : (k n : ℕ) (rest : List ℕ) → 10 ≤ n → decimal (suc k) n rest ≡ decimal k (n / 10) ((48 + n % 10) ∷ rest)
unfolding decimal
decimal_step k n rest l = rw (le-ltb n 10 l)

-- at most k digits are written
decimal_length : (k n : ℕ) (rest : List ℕ) → length (decimal k n rest) ≤ k + length rest
unfolding decimal
decimal_length zero n rest = omega arith
decimal_length (suc k) n rest =
    by_cases (dec_lt n 10)
    (λ (l : n < 10). rw (decimal_digit k n rest l) (omega arith))
    (λ g. rw (decimal_step k n rest (omega arith)) (omega (arith, decimal_length k (n / 10) ((48 + n % 10) ∷ rest))))

-- a place more changes nothing where the number has its digits
decimal_more : (k n : ℕ) (rest : List ℕ) → n < 10 ^ suc k → decimal (suc (suc k)) n rest ≡ decimal (suc k) n rest
decimal_more zero n rest h = decimal_digit 1 n rest h ∙ sym (decimal_digit 0 n rest h)
decimal_more (suc k) n rest h =
    by_cases (dec_lt n 10)
    (λ (l : n < 10). decimal_digit (suc (suc k)) n rest l ∙ sym (decimal_digit (suc k) n rest l))
    (λ g.
    decimal_step (suc (suc k)) n rest (omega arith)
    ∙ decimal_more k (n / 10) ((48 + n % 10) ∷ rest) (omega (arith, pow-suc 10 (suc k)))
    ∙ sym (decimal_step (suc k) n rest (omega arith)))

-- ---- what is written is read

-- a digit after those whose value is v
digit_read : (v d : ℕ) (rest : List ℕ) → d < 10 → digits_of v ((48 + d) ∷ rest) ≡ digits_of (v * 10 + d) rest
unfolding digits_of
digit_read v d rest l =
    let back : 48 + d - 48 ≡ d = omega arith in
    rw (le-leb 48 (48 + d) (omega arith), le-leb (48 + d) 57 (omega arith)) (ap (λ (x : ℕ). digits_of (v * 10 + x) rest) back)

-- the digits of a number
decimal_read : (k n : ℕ) (rest : List ℕ) → n < 10 ^ k → digits_of 0 (decimal k n rest) ≡ digits_of n rest
unfolding decimal
decimal_read zero n rest h = let none : n ≡ 0 = omega arith in rw none
decimal_read (suc k) n rest h =
    by_cases (dec_lt n 10)
    (λ (l : n < 10). rw (decimal_digit k n rest l) (digit_read 0 n rest l ∙ rw zero-add))
    (λ g.
    let whole : n / 10 * 10 + n % 10 ≡ n = omega arith in
    rw (decimal_step k n rest (omega arith))
    (decimal_read k (n / 10) ((48 + n % 10) ∷ rest) (omega (arith, pow-suc 10 k))
    ∙ digit_read (n / 10) (n % 10) rest (omega arith)
    ∙ ap (λ (x : ℕ). digits_of x rest) whole))

-- they begin with a digit, which is 0 for the number 0 alone
record Leading (n : ℕ) (l : List ℕ) : Type 0 where
  first : ℕ
  more : List ℕ
  is : l ≡ first ∷ more
  digit : 48 ≤ first
  not_zero : 0 < n → 48 < first

decimal_leads : (k n : ℕ) (rest : List ℕ) → n < 10 ^ suc k → Leading n (decimal (suc k) n rest)
decimal_leads zero n rest h =
    record { first = 48 + n; more = rest; is = decimal_digit 0 n rest (omega arith); digit = omega arith; not_zero = λ p. omega arith }
decimal_leads (suc k) n rest h =
    by_cases (dec_lt n 10)
    (λ (l : n < 10).
    record { first = 48 + n; more = rest; is = decimal_digit (suc k) n rest l; digit = omega arith; not_zero = λ p. omega arith })
    (λ g.
    let lead = decimal_leads k (n / 10) ((48 + n % 10) ∷ rest) (omega (arith, pow-suc 10 (suc k))) in
    record {
      first = lead.first;
      more = lead.more;
      is = decimal_step (suc k) n rest (omega arith) ∙ lead.is;
      digit = lead.digit;
      not_zero = λ p. lead.not_zero (omega arith);
    })

-- the first digit is no space
decimal_first : (n : ℕ) → n < 1000000 → field_of (decimal 6 n []) ≡ digits_of 0 (decimal 6 n [])
decimal_first n h =
    let lead = decimal_leads 5 n [] h in
    ap field_of lead.is ∙ digit_leads lead.first lead.more (λ e. omega (arith, lead.digit)) ∙ ap (digits_of 0) (sym lead.is)

-- zeros before digits add nothing
zeros_add : (z : ℕ) (l : List ℕ) → digits_of 0 (replicate z 48 ++ l) ≡ digits_of 0 l
unfolding digits_of
zeros_add zero l = refl
zeros_add (suc z) l = zeros_add z l

-- the first zero is no space
zeros_first : (z : ℕ) (l : List ℕ) → field_of l ≡ digits_of 0 l → field_of (replicate z 48 ++ l) ≡ digits_of 0 l
unfolding field_of
zeros_first zero l e = e
zeros_first (suc z) l e = zeros_add (suc z) l

-- spaces are passed over
spaces_read : (m : ℕ) (l : List ℕ) → field_of (replicate m 32 ++ l) ≡ field_of l
unfolding field_of
spaces_read zero l = refl
spaces_read (suc m) l = spaces_read m l

-- a field is spaces and digits
field_form : (n : ℕ) → field n ≡ replicate (6 - length (decimal 6 n [])) 32 ++ decimal 6 n []
unfolding field
field_form n = refl

-- columns that hold a number are read as it
pub holds_read : (l : List ℕ) (n : ℕ) → Holds l n → field_of l ≡ Some n
unfolding digits_of
holds_read l n h =
    ap field_of h.spelled ∙ spaces_read h.spaces (replicate h.zeros 48 ++ decimal 6 n [])
    ∙ zeros_first h.zeros (decimal 6 n []) (decimal_first n h.small) ∙ decimal_read 6 n [] h.small

-- they hold one number
pub holds_one : (l : List ℕ) (m n : ℕ) → Holds l m → Holds l n → m ≡ n
holds_one l m n h k = cc (holds_read l m h, holds_read l n k)

-- a field has six columns
pub field_length : (n : ℕ) → length (field n) ≡ 6
field_length n = simp (field_form n, length-append, length-replicate) (omega (arith, decimal_length 6 n []))

-- ---- what is read is as it is written

-- a byte that is read as a digit
digit_exact
    : (v n b : ℕ) (bs : List ℕ) → digits_of v (b ∷ bs) ≡ Some n
    → (48 ≤ b) × (b ≤ 57) × (digits_of (v * 10 + (b - 48)) bs ≡ Some n)
unfolding digits_of
digit_exact v n b bs e = go (is_digit b) refl e
  where
    go
        : (t : Bool) → is_digit b ≡ t → cond t (digits_of (v * 10 + (b - 48)) bs) None ≡ Some n
        → (48 ≤ b) × (b ≤ 57) × (digits_of (v * 10 + (b - 48)) bs ≡ Some n)
    go true t d = let both = (and-eq-true_iff _ _).0 t in (leb-true 48 b both.0, leb-true b 57 both.1, d)
    go false t d = let z : ◌≡◌ {A = ℕ} 0 1 = cc in absurd (omega arith)

-- digits that are read after those of v are the last digits of the number
digits_exact
    : (k m v n : ℕ) (bs rest : List ℕ) → m ≡ k + length bs → 0 < v → v < 10 ^ k → digits_of v bs ≡ Some n
    → (n < 10 ^ m) × (decimal m n rest ≡ decimal k v (bs ++ rest))
unfolding digits_of
digits_exact k m v n [] rest q p h e =
    let same : v ≡ n = cc in
    let here : m ≡ k = omega arith in
    rw (here, ← same) (h, refl)
digits_exact k m v n (b ∷ bs) rest q p h e =
    let (low, high, d) = digit_exact v n b bs e in
    let w : ℕ = v * 10 + (b - 48) in
    let more = digits_exact (suc k) m w n bs rest (omega arith) (omega arith) (omega (arith, pow-suc 10 k)) d in
    let head : w / 10 ≡ v = omega arith in
    let last : 48 + w % 10 ≡ b = omega arith in
    (more.0, more.1 ∙ decimal_step k w (bs ++ rest) (omega arith) ∙ rw (head, last))

-- columns that are read as a number are spaces, zeros and its digits
record Spelled (l : List ℕ) (n : ℕ) : Type 0 where
  small : n < 10 ^ length l
  spaces : ℕ
  zeros : ℕ
  written : l ≡ replicate spaces 32 ++ (replicate zeros 48 ++ decimal (length l) n [])

-- a space more
spelled_space : (l : List ℕ) (n : ℕ) → field_of l ≡ Some n → Spelled l n → Spelled (32 ∷ l) n
unfolding field_of
spelled_space [] n e s = let z : ◌≡◌ {A = ℕ} 0 1 = cc in absurd (omega arith)
spelled_space (b ∷ bs) n e s =
    record {
      small = omega (arith, s.small, pow-suc 10 (suc (length bs)));
      spaces = suc s.spaces;
      zeros = s.zeros;
      written =
          ap {B = List ℕ} (λ r. 32 ∷ r)
          (s.written
          ∙ ap (λ (r : List ℕ). replicate s.spaces 32 ++ (replicate s.zeros 48 ++ r))
          (sym (decimal_more (length bs) n [] s.small)));
    }

-- columns that are read as digits are zeros and the number's digits
record SpelledDigits (l : List ℕ) (n : ℕ) : Type 0 where
  small : n < 10 ^ length l
  zeros : ℕ
  written : l ≡ replicate zeros 48 ++ decimal (length l) n []

-- a zero alone
zero_alone : (n : ℕ) → digits_of 0 (48 ∷ []) ≡ Some n → SpelledDigits (48 ∷ []) n
unfolding digits_of decimal
zero_alone n e = let none : 0 ≡ n = cc in rw (← none) (record { small = omega arith; zeros = 0; written = refl })

-- a zero more
zero_more : (b : ℕ) (bs : List ℕ) (n : ℕ) → SpelledDigits (b ∷ bs) n → SpelledDigits (48 ∷ b ∷ bs) n
zero_more b bs n s =
    record {
      small = omega (arith, s.small, pow-suc 10 (suc (length bs)));
      zeros = suc s.zeros;
      written =
          ap {B = List ℕ} (λ r. 48 ∷ r)
          (s.written ∙ ap (λ (r : List ℕ). replicate s.zeros 48 ++ r) (sym (decimal_more (length bs) n [] s.small)));
    }

-- digits that begin with another
other_digit : (b : ℕ) (bs : List ℕ) (n : ℕ) → b ≢ 48 → digits_of 0 (b ∷ bs) ≡ Some n → SpelledDigits (b ∷ bs) n
other_digit b bs n ne e =
    let (low, high, d) = digit_exact 0 n b bs e in
    let v : ℕ = 0 * 10 + (b - 48) in
    let all = digits_exact 1 (suc (length bs)) v n bs [] (omega arith) (omega arith) (omega arith) d in
    record {
      small = all.0;
      zeros = 0;
      written =
          let first : 48 + v ≡ b = omega arith in
          sym (all.1 ∙ decimal_digit 0 v (bs ++ []) (omega arith) ∙ rw (first, append-nil));
    }

-- digits
spelled_digits : (b : ℕ) (bs : List ℕ) (n : ℕ) → digits_of 0 (b ∷ bs) ≡ Some n → SpelledDigits (b ∷ bs) n
unfolding digits_of
spelled_digits b [] n e =
    by_cases (ℕ_discrete b 48) (λ (z : b ≡ 48). rw z (zero_alone n (rw z at e))) (λ (ne : b ≢ 48). other_digit b [] n ne e)
spelled_digits b (c ∷ cs) n e =
    by_cases (ℕ_discrete b 48)
    (λ (z : b ≡ 48). rw z (zero_more c cs n (spelled_digits c cs n (rw z at e))))
    (λ (ne : b ≢ 48). other_digit b (c ∷ cs) n ne e)

-- columns that are read as a number
spelled : (l : List ℕ) (n : ℕ) → field_of l ≡ Some n → Spelled l n
unfolding field_of
spelled [] n e = let z : ◌≡◌ {A = ℕ} 0 1 = cc in absurd (omega arith)
spelled (b ∷ bs) n e = first (spelled bs n) (eqb b 32) refl e
  where
    first
        : (field_of bs ≡ Some n → Spelled bs n) → (t : Bool) → eqb b 32 ≡ t
        → cond t (field_of bs) (digits_of 0 (b ∷ bs)) ≡ Some n → Spelled (b ∷ bs) n
    first more true t d = rw (eqb-true b 32 t) (spelled_space bs n d (more d))
    first more false t d =
        let s = spelled_digits b bs n d in record { small = s.small; spaces = 0; zeros = s.zeros; written = s.written }

-- six columns that are read as a number hold it
pub field_exact : (l : List ℕ) (n : ℕ) → length l ≡ 6 → field_of l ≡ Some n → Holds l n
field_exact l n six e =
    let s = spelled l n e in
    record {
      columns = six;
      small = rw six at s.small;
      spaces = s.spaces;
      zeros = s.zeros;
      spelled = rw six at s.written;
    }

-- ---- without zeros

-- six columns of spaces and digits are a field
pub field_of_spaces : (l : List ℕ) (m n : ℕ) → length l ≡ 6 → l ≡ replicate m 32 ++ decimal 6 n [] → l ≡ field n
field_of_spaces l m n six e =
    let count : 6 ≡ m + length (decimal 6 n []) = sym six ∙ ap length e ∙ simp (length-append, length-replicate) in
    let free : m ≡ 6 - length (decimal 6 n []) = omega arith in
    rw (field_form n, ← free) e

-- a field holds its number
pub field_holds : (n : ℕ) → n < 1000000 → Holds (field n) n
field_holds n h =
    record {
      columns = field_length n;
      small = h;
      spaces = 6 - length (decimal 6 n []);
      zeros = 0;
      spelled = field_form n;
    }

-- what follows the spaces, where it begins with no space
past_spaces
    : (m k b c : ℕ) (bs cs : List ℕ) → b ≢ 32 → c ≢ 32 → replicate m 32 ++ (b ∷ bs) ≡ replicate k 32 ++ (c ∷ cs) → (b ≡ c) × (bs ≡ cs)
past_spaces zero zero b c bs cs p q e = (cc, cc)
past_spaces zero (suc k) b c bs cs p q e = absurd (p cc)
past_spaces (suc m) zero b c bs cs p q e = let s : ◌≡◌ {A = ℕ} 32 c = cc in absurd (q (sym s))
past_spaces (suc m) (suc k) b c bs cs p q e = past_spaces m k b c bs cs p q cc

-- a field has no zero before its digits
pub field_no_zeros : (n : ℕ) → n < 1000000 → NoZeros (field n)
unfolding decimal
field_no_zeros zero h m b bs e =
    let both = past_spaces 5 m 48 48 [] (b ∷ bs) (omega arith) (omega arith) (sym (field_form 0) ∙ e) in
    let z : ◌≡◌ {A = ℕ} 0 1 = cc both.1 in omega arith
field_no_zeros (suc n) h m b bs e =
    let lead = decimal_leads 5 (suc n) [] h in
    let both =
    past_spaces (6 - length (decimal 6 (suc n) [])) m lead.first 48 lead.more (b ∷ bs) (λ z. omega (arith, lead.digit)) (omega arith)
    (ap (λ (l : List ℕ). replicate (6 - length (decimal 6 (suc n) [])) 32 ++ l) (sym lead.is) ∙ sym (field_form (suc n)) ∙ e) in
    omega (arith, both.0, lead.not_zero (omega arith))

-- columns without zeros that hold a number are its field
pub holds_field : (l : List ℕ) (n : ℕ) → Holds l n → NoZeros l → l ≡ field n
holds_field l n h none = go h.zeros h.spelled
  where
    go : (z : ℕ) → l ≡ replicate h.spaces 32 ++ (replicate z 48 ++ decimal 6 n []) → l ≡ field n
    go zero e = field_of_spaces l h.spaces n h.columns e
    go (suc zero) e =
        let lead = decimal_leads 5 n [] h.small in
        absurd (none h.spaces lead.first lead.more
        (e ∙ ap (λ (r : List ℕ). replicate h.spaces 32 ++ (48 ∷ r)) lead.is))
    go (suc (suc z)) e = absurd (none h.spaces 48 (replicate z 48 ++ decimal 6 n []) e)

-- what reading a field says
pub field_says : FieldSays
field_says =
    record {
      holds = λ l n. (λ s. field_exact l n s.0 s.1, λ h. (h.columns, holds_read l n h));
      written = λ n h. (field_holds n h, field_no_zeros n h);
      only = holds_field;
    }
