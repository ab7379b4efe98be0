-- The edges of a job in the work buffer, by their index.
-- Assumes nothing.
use mathlib.Core.Path.{◌≡◌, refl, sym, ap, subst}
use mathlib.Core.Logic.{◌⊎◌, inl, inr, ⊎_elim, ◌↔◌}
use mathlib.Core.Bool.{Bool, true, false, ◌&&◌, true≢false}
use mathlib.Core.List.{List, [], ◌∷◌, ◌++◌, map}
use Prim.Native.Nat.{ℕ, zero, suc, ◌+◌, ◌-◌, ◌≤◌, ◌<◌}
use native.Mathlib.Nat.{eq-or-lt_of_le}
use native.Mathlib.Omega.{arith}
use lib.Dec.{eqb}
use borrow.Author.Tests.{eq-eqb, eqb-true}
use Rattle.laws.specs.Bounded.{tab_from}
use Rattle.laws.proofs.Tests.{or_passes, or_left, or_right}
use Rattle.job.specs.Job.{Edge, holds, edge}
use Rattle.buffer.specs.Views.{start_in, target_in, successors_in, edges_from, EdgeIn}

-- both of two tests
both : (a b : Bool) → (a && b) ≡ true → (a ≡ true) × (b ≡ true)
both true b e = (refl, e)
both false b e = absurd (true≢false (sym e))

-- both, the other way
of_both : (a b : Bool) → a ≡ true → b ≡ true → (a && b) ≡ true
of_both a b e f = rw (e, f) refl

-- an edge of two lists is one of either
holds_append : (xs ys : List Edge) (m n : ℕ) → holds (xs ++ ys) m n ≡ true → (holds xs m n ≡ true) ⊎ (holds ys m n ≡ true)
unfolding holds
holds_append [] ys m n h = inr h
holds_append (e ∷ xs) ys m n h =
    ⊎_elim
    (λ (a : (eqb e.from m && eqb e.to n) ≡ true). inl (or_left (eqb e.from m && eqb e.to n) (holds xs m n) a))
    (λ (b : holds (xs ++ ys) m n ≡ true).
    ⊎_elim
    (λ (c : holds xs m n ≡ true). inl (or_right (eqb e.from m && eqb e.to n) (holds xs m n) c))
    (λ (c : holds ys m n ≡ true). inr c)
    (holds_append xs ys m n b))
    (or_passes (eqb e.from m && eqb e.to n) (holds (xs ++ ys) m n) h)

-- an edge of the first list
holds_first : (xs ys : List Edge) (m n : ℕ) → holds xs m n ≡ true → holds (xs ++ ys) m n ≡ true
unfolding holds
holds_first [] ys m n h = absurd (true≢false (sym h))
holds_first (e ∷ xs) ys m n h =
    ⊎_elim
    (λ (a : (eqb e.from m && eqb e.to n) ≡ true). or_left (eqb e.from m && eqb e.to n) (holds (xs ++ ys) m n) a)
    (λ (b : holds xs m n ≡ true). or_right (eqb e.from m && eqb e.to n) (holds (xs ++ ys) m n) (holds_first xs ys m n b))
    (or_passes (eqb e.from m && eqb e.to n) (holds xs m n) h)

-- an edge of the second list
holds_second : (xs ys : List Edge) (m n : ℕ) → holds ys m n ≡ true → holds (xs ++ ys) m n ≡ true
unfolding holds
holds_second [] ys m n h = h
holds_second (e ∷ xs) ys m n h = or_right (eqb e.from m && eqb e.to n) (holds (xs ++ ys) m n) (holds_second xs ys m n h)

-- an edge to one of a row of targets has an index
holds_tab
    : (k i c : ℕ) (f : ℕ → ℕ) (m n : ℕ) → holds (map (edge k) (tab_from i c f)) m n ≡ true
    → (k ≡ m) × ((x : ℕ) × (i ≤ x) × (x < i + c) × (f x ≡ n))
unfolding holds tab_from
holds_tab k i zero f m n h = absurd (true≢false (sym h))
holds_tab k i (suc c) f m n h =
    ⊎_elim
    (λ (a : (eqb k m && eqb (f i) n) ≡ true).
    let b = both (eqb k m) (eqb (f i) n) a in (eqb-true k m b.0, (i, omega arith, omega arith, eqb-true (f i) n b.1)))
    (λ (a : holds (map (edge k) (tab_from (suc i) c f)) m n ≡ true).
    let r = holds_tab k (suc i) c f m n a in
    let lo : suc i ≤ r.1.0 = r.1.1 in
    let hi : r.1.0 < suc i + c = r.1.2 in
    (r.0, (r.1.0, omega arith, omega arith, r.1.3)))
    (or_passes (eqb k m && eqb (f i) n) (holds (map (edge k) (tab_from (suc i) c f)) m n) h)

-- and each index is one
tab_holds
    : (k i c : ℕ) (f : ℕ → ℕ) (x : ℕ) → i ≤ x → x < i + c → holds (map (edge k) (tab_from i c f)) k (f x) ≡ true
unfolding holds tab_from
tab_holds k i zero f x a b = absurd (omega arith)
tab_holds k i (suc c) f x a b =
    ⊎_elim
    (λ (e : i ≡ x).
    or_left (eqb k k && eqb (f i) (f x)) (holds (map (edge k) (tab_from (suc i) c f)) k (f x))
    (of_both (eqb k k) (eqb (f i) (f x)) (eq-eqb k k refl) (eq-eqb (f i) (f x) (ap f e))))
    (λ (l : i < x).
    or_right (eqb k k && eqb (f i) (f x)) (holds (map (edge k) (tab_from (suc i) c f)) k (f x))
    (tab_holds k (suc i) c f x (omega arith) (omega arith)))
    (eq-or-lt_of_le a)

-- an edge of the nodes from k on is one of the index
edges_index
    : (work : List ℕ) (k c m n : ℕ) → ((x : ℕ) → x < k + c → start_in work x ≤ start_in work (suc x))
    → holds (edges_from work k c) m n ≡ true → EdgeIn work m n
unfolding holds edges_from successors_in
edges_index work k zero m n up h = absurd (true≢false (sym h))
edges_index work k (suc c) m n up h =
    ⊎_elim
    (λ (a : holds (map (edge k) (successors_in work k)) m n ≡ true).
    let r = holds_tab k (start_in work k) (start_in work (suc k) - start_in work k) (target_in work) m n a in
    let u : start_in work k ≤ start_in work (suc k) = up k (omega arith) in
    let b : r.1.0 < start_in work k + (start_in work (suc k) - start_in work k) = r.1.2 in
    rw (← r.0) (record { index = r.1.0; first = r.1.1; last = omega arith; target = r.1.3 }))
    (λ (b : holds (edges_from work (suc k) c) m n ≡ true). edges_index work (suc k) c m n (λ x l. up x (omega arith)) b)
    (holds_append (map (edge k) (successors_in work k)) (edges_from work (suc k) c) m n h)

-- and an edge of the index is one of them
index_edges
    : (work : List ℕ) (k c m n : ℕ) → k ≤ m → m < k + c → EdgeIn work m n → holds (edges_from work k c) m n ≡ true
unfolding edges_from successors_in
index_edges work k zero m n a b e = absurd (omega arith)
index_edges work k (suc c) m n a b e =
    ⊎_elim
    (λ (q : k ≡ m).
    holds_first (map (edge k) (successors_in work k)) (edges_from work (suc k) c) m n
    (let lo : start_in work m ≤ e.index = e.first in
    let hi : e.index < start_in work (suc m) = e.last in
    let in_row : e.index < start_in work m + (start_in work (suc m) - start_in work m) = omega arith in
    subst (λ (x : ℕ). holds (map (edge k) (successors_in work k)) m x ≡ true) e.target
    (rw (q) (tab_holds m (start_in work m) (start_in work (suc m) - start_in work m) (target_in work) e.index lo in_row))))
    (λ (l : k < m).
    holds_second (map (edge k) (successors_in work k)) (edges_from work (suc k) c) m n
    (index_edges work (suc k) c m n (omega arith) (omega arith) e))
    (eq-or-lt_of_le a)

-- the edges of the first c nodes are those of the index
pub edges_says
    : (work : List ℕ) (c m n : ℕ) → ((x : ℕ) → x < c → start_in work x ≤ start_in work (suc x)) → m < c
    → (holds (edges_from work 0 c) m n ≡ true) ↔ EdgeIn work m n
edges_says work c m n up h = (edges_index work 0 c m n (λ x l. up x (omega arith)), index_edges work 0 c m n (omega arith) (omega arith))
