-- Laws of pairs gathered from nodes into sixteen rows, in the shape of the code.
-- Assumes nothing.
use mathlib.Core.Path.{◌≡◌, sym, ap, subst, ◌∙◌}
use mathlib.Core.Logic.{⊎_elim}
use mathlib.Core.Bool.{Bool, true, false, true≢false}
use mathlib.Core.List.{List}
use Prim.Native.Nat.{ℕ, ◌≤◌, ◌<◌}
use native.Mathlib.Omega.{arith}
use lib.ListN.{get_or}
use Rattle.laws.specs.Bounded.{tab}
use Rattle.laws.specs.Bits.{has}
use Rattle.laws.proofs.Bounded.{get_d_tab}
use Rattle.tables.specs.Sixteen.{InRows, Sixteen}
use Rattle.tables.proofs.SixteenLaws.{empty_rows, empty_none}
use Rattle.relation.specs.Union.{Union, Below}
use Rattle.relation.proofs.UnionLaws.{union_none, union_as}
use Rattle.returnrows.specs.Gathered.{RowsHold}

-- rows that were read are joined, at a node that passes the test
pub union_read
    : {l m more : List ℕ} (f : ℕ → ℕ) (b : Bool) → more ≡ tab 16 f → b ≡ true → Union (InRows more) l m
    → Union (λ p q. (b ≡ true) × (has (f p) q ≡ true)) l m
union_read {more = more} f b is e u =
    union_as (λ p q h x. (e, subst (λ (y : ℕ). has y q ≡ true) (row p h) x)) (λ p q h x. subst (λ (y : ℕ). has y q ≡ true) (sym (row p h)) x.1) u
  where
    row : (p : ℕ) → p < 16 → get_or more p 0 ≡ f p
    row p h = ap (λ (r : List ℕ). get_or r p 0) is ∙ get_d_tab 16 f p 0 h

-- nothing is joined at any other
pub union_other : (f : ℕ → ℕ) (b : Bool) (l : List ℕ) → b ≡ false → Union (λ p q. (b ≡ true) × (has (f p) q ≡ true)) l l
union_other f b l e = union_none l (λ p q h x. true≢false (sym x.0 ∙ e))

-- from rows without pairs on, they hold what was joined
pub rows_hold : {T : ℕ → ℕ → Type 0} {m : List ℕ} → Sixteen m → Union T (empty_rows 16) m → RowsHold T m
rows_hold s u = record {
  sixteen = s;
  here = u.here;
  only = λ p q h x. ⊎_elim (λ y. absurd (empty_none 16 p q y)) (λ y. y) (u.new p q h x);
}

-- all numbers below the bound are passed
pub below_end : {T : ℕ → ℕ → ℕ → Type 0} {l m : List ℕ} (n k : ℕ) → k ≤ n → n ≤ k → Union (Below T n) l m → Union (Below T k) l m
below_end n k a b u =
    union_as (λ p q h x. record { index = x.index; below = omega (arith, x.below); holds = x.holds })
    (λ p q h x. record { index = x.index; below = omega (arith, x.below); holds = x.holds }) u
