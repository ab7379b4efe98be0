-- Laws of what stores leave: parts of the buffer apart from them are as before.
-- Assumes nothing.
use mathlib.Core.Path.{◌≡◌, refl, ◌∙◌}
use mathlib.Core.Logic.{◌⊎◌, inl, inr, by_cases}
use mathlib.Core.List.{List}
use Prim.Native.Nat.{ℕ, ◌+◌, ◌*◌, ◌≤◌, ◌<◌}
use native.Mathlib.Nat.{le_refl}
use native.Mathlib.Decide.{ℕ_discrete}
use native.Mathlib.Omega.{arith}
use lib.ListN.{length, set, length-set}
use lib.Seq.{get_or-set_same, get_or-set_other}
use Rattle.laws.specs.Bytes.{number_at, put_number}
use Rattle.laws.proofs.Bytes.{number_cong, length_put, get_d_put_outside}
use Rattle.buffer.specs.Views.{node_in}
use Rattle.buffer.specs.Kept.{Outside, Kept, SameOutside, Zeroed}

-- nothing is stored
pub kept_same : {Place : ℕ → Type 0} (l : List ℕ) → Kept Place l l
kept_same l = record { long = refl; outside = λ k p. refl }

-- one store after another: what both leave is as it was
pub Kept-then
    : {P Q R : ℕ → Type 0} {l m n : List ℕ} → ((k : ℕ) → R k → P k × Q k) → Kept P l m → Kept Q m n → Kept R l n
Kept-then f p q = record {
  long = q.long ∙ p.long;
  outside = λ k r. q.outside k (f k r).1 ∙ p.outside k (f k r).0;
}

-- fewer places are as they were
pub kept_fewer : {P Q : ℕ → Type 0} {l m : List ℕ} → ((k : ℕ) → Q k → P k) → Kept P l m → Kept Q l m
kept_fewer f p = Kept-then (λ k q. (f k q, q)) p (kept_same _)

-- what is outside a part is outside each part of it
pub outside_part : {i j a b : ℕ} → i ≤ a → b ≤ j → (k : ℕ) → Outside i j k → Outside a b k
outside_part h g k (inl o) = inl (omega arith)
outside_part h g k (inr o) = inr (omega arith)

-- nothing is stored in a part
pub kept_none : (l : List ℕ) (i j : ℕ) → SameOutside l l i j
kept_none l i j = kept_same l

-- a store after another, in a wider part
pub kept_both
    : (l m k : List ℕ) (i j a b : ℕ) → SameOutside l m i j → SameOutside m k a b → i ≤ a → b ≤ j → SameOutside l k i j
kept_both l m k i j a b p q h g = Kept-then (λ x o. (o, outside_part h g x o)) p q

-- one byte is stored
pub kept_set : (l : List ℕ) (i v : ℕ) → SameOutside l (set l i v) i (i + 1)
kept_set l i v = record { long = length-set l i v; outside = λ k o. get_or-set_other l i k v 0 (other k o) }
  where
    other : (k : ℕ) → (k < i) ⊎ (i + 1 ≤ k) → k ≡ i → ⊥
    other k (inl o) e = absurd (omega arith)
    other k (inr o) e = absurd (omega arith)

-- a number of two bytes is stored
pub kept_put : (l m : List ℕ) (i v : ℕ) → m ≡ put_number 2 l i v → SameOutside l m i (i + 2)
kept_put l m i v e = rw e (record { long = length_put 2 l i v; outside = λ k o. get_d_put_outside 2 l i v k 0 o })

module _ (l m : List ℕ) (i j : ℕ) (p : SameOutside l m i j) where
  -- a number of two bytes apart
  pub number_kept : (x : ℕ) → (x + 2 ≤ i) ⊎ (j ≤ x) → number_at 2 m x ≡ number_at 2 l x
  number_kept x o = number_cong 2 m l x x (λ k h. p.outside (x + k) (apart k h o))
    where
      apart : (k : ℕ) → k < 2 → (x + 2 ≤ i) ⊎ (j ≤ x) → (x + k < i) ⊎ (j ≤ x + k)
      apart k h (inl q) = inl (omega arith)
      apart k h (inr q) = inr (omega arith)

  -- a node apart
  pub node_kept : (n : ℕ) → (n * 8 + 8 ≤ i) ⊎ (j ≤ n * 8) → node_in m n ≡ node_in l n
  unfolding node_in
  node_kept n o =
      rw (
        number_kept (n * 8) (first o),
        number_kept (n * 8 + 2) (far 2 2 o (omega arith)),
        number_kept (n * 8 + 4) (far 4 2 o (omega arith)),
        p.outside (n * 8 + 6) (near 6 o (omega arith)),
        p.outside (n * 8 + 7) (near 7 o (omega arith)),
      )
    where
      far : (a b : ℕ) → (n * 8 + 8 ≤ i) ⊎ (j ≤ n * 8) → a + b ≤ 8 → (n * 8 + a + b ≤ i) ⊎ (j ≤ n * 8 + a)
      far a b (inl q) h = inl (omega arith)
      far a b (inr q) h = inr (omega arith)

      first : (n * 8 + 8 ≤ i) ⊎ (j ≤ n * 8) → (n * 8 + 2 ≤ i) ⊎ (j ≤ n * 8)
      first (inl q) = inl (omega arith)
      first (inr q) = inr q

      near : (a : ℕ) → (n * 8 + 8 ≤ i) ⊎ (j ≤ n * 8) → a < 8 → (n * 8 + a < i) ⊎ (j ≤ n * 8 + a)
      near a (inl q) h = inl (omega arith)
      near a (inr q) h = inr (omega arith)

-- ---- zeros

-- nothing is zero yet
pub zeroed_none : (l : List ℕ) (i : ℕ) → Zeroed l l i i
zeroed_none l i = record { kept = kept_none l i i; zeros = λ k x y. absurd (omega arith) }

-- one more byte
pub zeroed_more : (l m : List ℕ) (i j : ℕ) → i ≤ j → j < length l → Zeroed l m i j → Zeroed l (set m j 0) i (j + 1)
zeroed_more l m i j h g z = record {
  kept = Kept-then (λ k o. (outside_part (le_refl i) (omega arith) k o, outside_part h (le_refl (j + 1)) k o)) z.kept (kept_set m j 0);
  zeros = λ k x y.
      by_cases (ℕ_discrete k j)
      (λ (e : k ≡ j). rw e (get_or-set_same m j 0 0 (omega (arith, z.kept.long))))
      (λ (e : k ≡ j → ⊥). get_or-set_other m j k 0 0 e ∙ z.zeros k x (omega arith));
}
