-- Laws of pairs joined into sixteen rows, one lot after another.
-- Assumes nothing.
use mathlib.Core.Path.{◌≡◌, refl, sym, subst}
use mathlib.Core.Logic.{inl, inr, ⊎_elim, by_cases}
use mathlib.Core.Bool.{true}
use mathlib.Core.List.{List}
use Prim.Native.Nat.{ℕ, ◌+◌, ◌≤◌, ◌<◌}
use native.Mathlib.Decide.{ℕ_discrete}
use native.Mathlib.Omega.{arith}
use Rattle.laws.specs.Bits.{has}
use Rattle.tables.specs.Sixteen.{InRows, RowJoined}
use Rattle.relation.specs.Union.{Union, Below}

-- the pairs of a set in row p
abbrev pub AtRow : ℕ → ℕ → ℕ → ℕ → Type 0
AtRow p s r q = (r ≡ p) × (has s q ≡ true)

-- a set was joined
pub union_row : {l m : List ℕ} {p s count : ℕ} → RowJoined l m p s count → Union (AtRow p s) l m
union_row {l} {m} {p} {s} j = record {
  held = j.held;
  here = λ r q h x. subst (λ (y : ℕ). InRows m y q) (sym x.0) (j.here q x.1);
  new = j.new;
}

-- nothing was, and there is nothing
pub union_none : {T : ℕ → ℕ → Type 0} (l : List ℕ) → ((p q : ℕ) → p < 16 → T p q → ⊥) → Union T l l
union_none l none = record {
  held = λ p q h x. x;
  here = λ p q h x. absurd (none p q h x);
  new = λ p q h x. inl x;
}

-- the pairs said otherwise
pub union_as
    : {T U : ℕ → ℕ → Type 0} {l m : List ℕ} → ((p q : ℕ) → p < 16 → T p q → U p q) → ((p q : ℕ) → p < 16 → U p q → T p q)
    → Union T l m → Union U l m
union_as there back u = record {
  held = u.held;
  here = λ p q h x. u.here p q h (back p q h x);
  new = λ p q h x. ⊎_elim inl (λ y. inr (there p q h y)) (u.new p q h x);
}

-- none of the first 0
pub union_start : {T : ℕ → ℕ → ℕ → Type 0} (l : List ℕ) → Union (Below T 0) l l
union_start l = union_none l (λ p q h x. absurd (omega (arith, x.below)))

-- one more
pub union_more
    : {T : ℕ → ℕ → ℕ → Type 0} {l m k : List ℕ} {n : ℕ} → Union (Below T n) l m → Union (T n) m k → Union (Below T (n + 1)) l k
union_more {T} {l} {m} {k} {n} u v = record {
  held = λ p q h x. v.held p q h (u.held p q h x);
  here = λ p q h x.
      by_cases (ℕ_discrete x.index n)
      (λ (e : x.index ≡ n). v.here p q h (subst (λ (i : ℕ). T i p q) e x.holds))
      (λ (ne : x.index ≡ n → ⊥).
      v.held p q h (u.here p q h (record { index = x.index; below = omega (arith, x.below); holds = x.holds })));
  new = λ p q h x.
      ⊎_elim
      (λ (y : InRows m p q).
      ⊎_elim
      (λ (z : InRows l p q). inl z)
      (λ (z : Below T n p q). inr (record { index = z.index; below = omega (arith, z.below); holds = z.holds }))
      (u.new p q h y))
      (λ (y : T n p q). inr (record { index = n; below = omega arith; holds = y }))
      (v.new p q h x);
}

-- sixteen rows were joined, one after another
pub union_rows
    : (row : ℕ → ℕ) {l m : List ℕ} {n : ℕ} → Union (Below (λ i. AtRow i (row i)) n) l m → 16 ≤ n
    → Union (λ p q. has (row p) q ≡ true) l m
union_rows row u all =
    union_as (λ p q h x. subst (λ (i : ℕ). has (row i) q ≡ true) (sym x.holds.0) x.holds.1)
    (λ p q h x. record { index = p; below = omega arith; holds = (refl, x) }) u

-- as many as there are
pub union_end
    : {T : ℕ → ℕ → ℕ → Type 0} {l m : List ℕ} {n k : ℕ} → Union (Below T n) l m → n ≤ k → k ≤ n → Union (Below T k) l m
union_end {T} {l} {m} {n} {k} u low high = subst (λ (i : ℕ). Union (Below T i) l m) (omega arith) u
