-- Laws of numbers in lists of bytes, over any width.
-- Assumes nothing.
use Prim.Native.Nat.{ℕ, zero, suc, ◌+◌, ◌*◌, ◌/◌, ◌%◌, ◌^◌, ◌≤◌, ◌<◌}
use mathlib.Core.Path.{◌≡◌, refl, ap, ◌∙◌}
use mathlib.Core.Logic.{◌⊎◌, inl, inr, ⊎_elim, by_cases}
use mathlib.Core.List.{List}
use native.Mathlib.Nat.{le_refl, le_step, zero-add, add-zero, add-suc, suc-add, mul_assoc, pow-suc, pow-succ', div-one, div-div-eq-div-mul}
use native.Mathlib.Nat.{ne_of_lt, ne_of_gt}
use native.Mathlib.Decide.{dec_lt}
use native.Mathlib.Omega.{arith}
use lib.Dec.{lit<}
use lib.ListN.{length, get_or, set, length-set, get_or-eq_default}
use lib.Seq.{length-sets, get_or-set_same, get_or-set_other, set-get_or, set-set}
use Rattle.laws.proofs.Sets.{set_sets}
use Rattle.laws.specs.Bytes.{ReadsBack, AreBytes, number_at, bytes_of, put_number}

-- ---- bytes

-- a place of a list of bytes has a byte, and 0 past its end
pub byte_lt : (l : List ℕ) (i : ℕ) → AreBytes l → get_or l i 0 < 256
byte_lt l i h =
    by_cases (dec_lt i (length l)) (h i) (λ g. rw (get_or-eq_default l 0 {n = i} (omega arith)) (lit< tt))

-- ---- a number that is read

-- a number of n bytes
pub number_lt : (n : ℕ) (l : List ℕ) (i : ℕ) → AreBytes l → number_at n l i < 256 ^ n
unfolding number_at
number_lt zero l i h = lit< tt
number_lt (suc n) l i h = omega (arith, pow-suc 256 n, number_lt n l (suc i) h, byte_lt l i h)

-- equal bytes make equal numbers
pub number_cong
    : (n : ℕ) (l m : List ℕ) (i j : ℕ) → ((k : ℕ) → k < n → get_or l (i + k) 0 ≡ get_or m (j + k) 0)
    → number_at n l i ≡ number_at n m j
unfolding number_at
number_cong zero l m i j h = refl
number_cong (suc n) l m i j h =
    let first : get_or l i 0 ≡ get_or m j 0 = rw (add-zero i, add-zero j) at (h 0 (omega arith)) in
    let rest : number_at n l (suc i) ≡ number_at n m (suc j) =
    number_cong n l m (suc i) (suc j) (λ k p. rw (suc-add i k, suc-add j k, ← add-suc i k, ← add-suc j k) (h (suc k) (omega arith))) in
    omega arith

-- a number of m + n bytes is one of m bytes and above it one of n
pub number_split
    : (m n : ℕ) (l : List ℕ) (i : ℕ) → number_at (m + n) l i ≡ number_at m l i + 256 ^ m * number_at n l (i + m)
unfolding number_at
number_split zero n l i = rw (zero-add n, add-zero i) (omega arith)
number_split (suc m) n l i =
    let next : i + suc m ≡ suc i + m = omega arith in
    let up : 256 ^ suc m * number_at n l (suc i + m) ≡ 256 * (256 ^ m * number_at n l (suc i + m)) =
    rw pow-succ' (mul_assoc 256 (256 ^ m) (number_at n l (suc i + m))) in
    rw (suc-add m n, next) (omega (arith, number_split m n l (suc i)))

-- ---- a number that is written

-- a number written keeps the length
pub length_put : (n : ℕ) (l : List ℕ) (i v : ℕ) → length (put_number n l i v) ≡ length l
unfolding put_number
length_put n l i v = length-sets l i (bytes_of n v)

-- one byte after the other
put_suc : (n : ℕ) (l : List ℕ) (i v : ℕ) → put_number (suc n) l i v ≡ put_number n (set l i (v % 256)) (suc i) (v / 256)
unfolding put_number bytes_of
put_suc n l i v = refl

-- the m bytes and then the n bytes
pub put_split
    : (m n : ℕ) (l : List ℕ) (i v : ℕ)
    → put_number (m + n) l i v ≡ put_number n (put_number m l i v) (i + m) (v / 256 ^ m)
unfolding put_number bytes_of
put_split zero n l i v = rw (zero-add n, add-zero i, div-one v)
put_split (suc m) n l i v =
    let next : i + suc m ≡ suc i + m = omega arith in
    rw (suc-add m n, next, pow-succ' 256 m, ← div-div-eq-div-mul v 256 (256 ^ m))
    (put_split m n (set l i (v % 256)) (suc i) (v / 256))

-- other places are as before
pub get_d_put_outside
    : (n : ℕ) (l : List ℕ) (i v k d : ℕ) → (k < i) ⊎ (i + n ≤ k) → get_or (put_number n l i v) k d ≡ get_or l k d
unfolding put_number bytes_of
get_d_put_outside zero l i v k d h = refl
get_d_put_outside (suc n) l i v k d h =
    get_d_put_outside n (set l i (v % 256)) (suc i) (v / 256) k d (later h)
    ∙ get_or-set_other l i k (v % 256) d (⊎_elim (λ (p : k < i). ne_of_lt p) (λ (p : i + suc n ≤ k). ne_of_gt (omega arith)) h)
  where
    later : (k < i) ⊎ (i + suc n ≤ k) → (k < suc i) ⊎ (suc i + n ≤ k)
    later (inl p) = inl (le_step p)
    later (inr p) = inr (omega arith)

-- a number at a place apart is as before
pub number_put_other
    : (n m : ℕ) (l : List ℕ) (i j v : ℕ) → (j + m ≤ i) ⊎ (i + n ≤ j) → number_at m (put_number n l i v) j ≡ number_at m l j
number_put_other n m l i j v h =
    number_cong m (put_number n l i v) l j j
    (λ k p. get_d_put_outside n l i v (j + k) 0 (apart k p h))
  where
    apart : (k : ℕ) → k < m → (j + m ≤ i) ⊎ (i + n ≤ j) → (j + k < i) ⊎ (i + n ≤ j + k)
    apart k p (inl q) = inl (omega arith)
    apart k p (inr q) = inr (omega arith)

-- what was written is read
pub number_put : (n : ℕ) → ReadsBack n
unfolding number_at
number_put zero l i v h f = omega arith
number_put (suc n) l i v h f =
    let here : get_or (put_number (suc n) l i v) i 0 ≡ v % 256 =
    rw (put_suc n l i v)
    (get_d_put_outside n (set l i (v % 256)) (suc i) (v / 256) i 0 (inl (le_refl (suc i)))
    ∙ get_or-set_same l i (v % 256) 0 (omega arith)) in
    let rest : number_at n (put_number (suc n) l i v) (suc i) ≡ v / 256 =
    rw (put_suc n l i v)
    (number_put n (set l i (v % 256)) (suc i) (v / 256) (omega (arith, pow-suc 256 n)) (rw length-set (omega arith))) in
    omega arith

-- what was read and is written again changes nothing
pub put_number_lem : (n : ℕ) (l : List ℕ) (i : ℕ) → AreBytes l → put_number n l i (number_at n l i) ≡ l
unfolding put_number bytes_of number_at
put_number_lem zero l i h = refl
put_number_lem (suc n) l i h =
    let b = byte_lt l i h in
    let low : (get_or l i 0 + 256 * number_at n l (suc i)) % 256 ≡ get_or l i 0 = omega arith in
    let high : (get_or l i 0 + 256 * number_at n l (suc i)) / 256 ≡ number_at n l (suc i) = omega arith in
    rw (low, high, set-get_or l i 0) (put_number_lem n l (suc i) h)

-- of two numbers written at one place the second stays
pub put_put : (n : ℕ) (l : List ℕ) (i u v : ℕ) → put_number n (put_number n l i u) i v ≡ put_number n l i v
unfolding put_number bytes_of
put_put zero l i u v = refl
put_put (suc n) l i u v =
    ap (λ (m : List ℕ). put_number n m (suc i) (v / 256))
    (set_sets (set l i (u % 256)) (suc i) (bytes_of n (u / 256)) i (v % 256) (le_refl (suc i))
    ∙ ap (λ (m : List ℕ). put_number n m (suc i) (u / 256)) (set-set l i (u % 256) (v % 256)))
    ∙ put_put n (set l i (v % 256)) (suc i) (u / 256) (v / 256)
