-- More numbers than places: one place has two.
-- Assumes nothing.
use mathlib.Core.Path.{◌≡◌, ap}
use mathlib.Core.Logic.{◌≢◌, by_cases}
use mathlib.Core.Bool.{Bool, cond}
use Prim.Native.Nat.{ℕ, zero, suc, ◌-◌, ◌≤◌, ◌<◌}
use native.Mathlib.Decide.{dec_lt}
use native.Mathlib.Omega.{arith}
use lib.Dec.{ltb}
use borrow.Author.Tests.{lt-ltb, le-ltb}

-- the places without place v: those above it go down by one
lowered : ℕ → ℕ → ℕ
lowered v x = cond (ltb x v) x (x - 1)

lowered_low : (v x : ℕ) → x < v → lowered v x ≡ x
unfolding lowered
lowered_low v x h = ap (λ (b : Bool). cond b x (x - 1)) (lt-ltb x v h)

lowered_high : (v x : ℕ) → v ≤ x → lowered v x ≡ x - 1
unfolding lowered
lowered_high v x h = ap (λ (b : Bool). cond b x (x - 1)) (le-ltb x v h)

lowered_below : (n v x : ℕ) → v < suc n → x < suc n → x ≢ v → lowered v x < n
lowered_below n v x l h d =
    by_cases (dec_lt x v)
    (λ (y : x < v). omega (arith, lowered_low v x y, l))
    (λ (y : x < v → ⊥). omega (arith, lowered_high v x (omega (arith, y)), y, d, h))

lowered_once : (v x y : ℕ) → x ≢ v → y ≢ v → lowered v x ≡ lowered v y → x ≡ y
lowered_once v x y d e s =
    by_cases (dec_lt x v)
    (λ (p : x < v).
    by_cases (dec_lt y v)
    (λ (q : y < v). omega (arith, lowered_low v x p, lowered_low v y q, s))
    (λ (q : y < v → ⊥). omega (arith, lowered_low v x p, lowered_high v y (omega (arith, q)), s, p, q, e)))
    (λ (p : x < v → ⊥).
    by_cases (dec_lt y v)
    (λ (q : y < v). omega (arith, lowered_high v x (omega (arith, p)), lowered_low v y q, s, p, q, d))
    (λ (q : y < v → ⊥). omega (arith, lowered_high v x (omega (arith, p)), lowered_high v y (omega (arith, q)), s, p, q, d, e)))

-- no n + 1 numbers have different places among n
pub pigeonhole
    : (n : ℕ) (f : (i : ℕ) → i < suc n → ℕ) → ((i : ℕ) (h : i < suc n) → f i h < n)
    → ((i j : ℕ) (h : i < suc n) (k : j < suc n) → f i h ≡ f j k → i ≡ j) → ⊥
pigeonhole zero f below once = omega (arith, below 0 (omega arith))
pigeonhole (suc n) f below once =
    pigeonhole n (λ i h. lowered v (f i (wide h)))
    (λ i h. lowered_below n v (f i (wide h)) (below (suc n) top) (below i (wide h)) (apart i h))
    (λ i j h k s. once i j (wide h) (wide k) (lowered_once v (f i (wide h)) (f j (wide k)) (apart i h) (apart j k) s))
  where
    top : suc n < suc (suc n)
    top = omega arith

    v : ℕ
    v = f (suc n) top

    wide : {i : ℕ} → i < suc n → i < suc (suc n)
    wide h = omega (arith, h)

    apart : (i : ℕ) (h : i < suc n) → f i (wide h) ≢ v
    apart i h s = omega (arith, once i (suc n) (wide h) top s, h)
