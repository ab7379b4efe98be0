-- Laws of a table of 8,192 numbers of two bytes in the buffer, one of which is joined with a set: the others stay, and the room falls.
-- Assumes nothing.
use mathlib.Core.Path.{◌≡◌, sym, ap, subst, ◌∙◌}
use mathlib.Core.Logic.{◌⊎◌, inl, inr, ⊎_elim, by_cases}
use mathlib.Core.Bool.{true}
use mathlib.Core.List.{List}
use Prim.Native.Nat.{ℕ, ◌+◌, ◌-◌, ◌*◌, ◌≤◌, ◌<◌}
use native.Mathlib.Decide.{ℕ_discrete, dec_lt}
use native.Mathlib.Omega.{arith}
use lib.Bits.{bit_or, or_add_and, and_le_r}
use Rattle.laws.specs.Bounded.{sum_below}
use Rattle.laws.specs.Bits.{has}
use Rattle.laws.specs.Bytes.{number_at, put_number}
use Rattle.laws.proofs.Bounded.{sum_change}
use Rattle.laws.proofs.Bits.{has_or}
use Rattle.laws.proofs.Bytes.{number_put_other}
use Rattle.laws.proofs.Tests.{or_left, or_right, or_passes}

-- a set is at most its union with another
pub or_above : (a b : ℕ) → a ≤ bit_or a b
or_above a b = omega (arith, or_add_and a b, and_le_r a b)

-- the number at another index
pub number_row
    : (l : List ℕ) (b i j v : ℕ) → (i ≡ j → ⊥) → number_at 2 (put_number 2 l (b + j * 2) v) (b + i * 2) ≡ number_at 2 l (b + i * 2)
number_row l b i j v h =
    number_put_other 2 2 l (b + j * 2) (b + i * 2) v
    (by_cases (dec_lt i j) (λ (g : i < j). inl (omega arith)) (λ (g : i < j → ⊥). inr (omega arith)))

-- number k of the table at b was joined with a set, and the others are as they were
pub record NumberJoined (l m : List ℕ) (b k s : ℕ) : Type 0 where
  pub here : number_at 2 m (b + k * 2) ≡ bit_or (number_at 2 l (b + k * 2)) s
  pub others : (i : ℕ) → i < 8192 → (i ≡ k → ⊥) → number_at 2 m (b + i * 2) ≡ number_at 2 l (b + i * 2)

module _ {l m : List ℕ} {b k s : ℕ} (j : NumberJoined l m b k s) where
  -- the members of the joined number
  members : (q : ℕ) → has (number_at 2 m (b + k * 2)) q ≡ has (bit_or (number_at 2 l (b + k * 2)) s) q
  members q = ap (λ (z : ℕ). has z q) j.here

  -- the set is in it
  pub joined_here : (q : ℕ) → has s q ≡ true → has (number_at 2 m (b + k * 2)) q ≡ true
  joined_here q x =
      members q ∙ has_or (number_at 2 l (b + k * 2)) s q ∙ or_right (has (number_at 2 l (b + k * 2)) q) (has s q) x

  -- what a number held it holds
  pub joined_held
      : (i q : ℕ) → i < 8192 → has (number_at 2 l (b + i * 2)) q ≡ true → has (number_at 2 m (b + i * 2)) q ≡ true
  joined_held i q h x =
      by_cases (ℕ_discrete i k)
      (λ (c : i ≡ k).
      subst (λ (z : ℕ). has (number_at 2 m (b + z * 2)) q ≡ true) (sym c)
      (members q ∙ has_or (number_at 2 l (b + k * 2)) s q
      ∙ or_left (has (number_at 2 l (b + k * 2)) q) (has s q) (subst (λ (z : ℕ). has (number_at 2 l (b + z * 2)) q ≡ true) c x)))
      (λ (c : i ≡ k → ⊥). ap (λ (z : ℕ). has z q) (j.others i h c) ∙ x)

  -- what a number holds it held, or it is of the set
  pub joined_new
      : (i q : ℕ) → i < 8192 → has (number_at 2 m (b + i * 2)) q ≡ true
      → (has (number_at 2 l (b + i * 2)) q ≡ true) ⊎ ((i ≡ k) × (has s q ≡ true))
  joined_new i q h x =
      by_cases (ℕ_discrete i k)
      (λ (c : i ≡ k).
      ⊎_elim
      (λ (a : has (number_at 2 l (b + k * 2)) q ≡ true). inl (subst (λ (z : ℕ). has (number_at 2 l (b + z * 2)) q ≡ true) (sym c) a))
      (λ (a : has s q ≡ true). inr (c, a))
      (or_passes (has (number_at 2 l (b + k * 2)) q) (has s q)
      (sym (has_or (number_at 2 l (b + k * 2)) s q) ∙ sym (members q)
      ∙ subst (λ (z : ℕ). has (number_at 2 m (b + z * 2)) q ≡ true) c x)))
      (λ (c : i ≡ k → ⊥). inl (ap (λ (z : ℕ). has z q) (sym (j.others i h c)) ∙ x))

  -- the room in the table falls by one at least where the number grows
  pub room_falls
      : k < 8192 → (number_at 2 m (b + k * 2) ≡ number_at 2 l (b + k * 2) → ⊥) → number_at 2 m (b + k * 2) < 65536
      → sum_below 8192 (λ i. 65535 - number_at 2 m (b + i * 2)) + 1 ≤ sum_below 8192 (λ i. 65535 - number_at 2 l (b + i * 2))
  room_falls h ne f =
      let a = or_above (number_at 2 l (b + k * 2)) s in
      let e = j.here in
      let c = sum_change 8192 (λ i. 65535 - number_at 2 m (b + i * 2)) (λ i. 65535 - number_at 2 l (b + i * 2)) k 1 0 h
      (λ i x y. ap (λ (z : ℕ). 65535 - z) (j.others i x y)) (omega arith) in
      omega arith
