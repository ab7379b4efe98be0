-- Laws of joining sixteen rows at one node and at the successors of a node.
-- Assumes nothing.
use mathlib.Core.Path.{◌≡◌, sym, ap, subst, ◌∙◌}
use mathlib.Core.Logic.{◌⊎◌, inl, inr, ⊎_elim, by_cases}
use mathlib.Core.Bool.{true}
use mathlib.Core.List.{List}
use Prim.Native.Nat.{ℕ, suc, ◌+◌, ◌≤◌, ◌<◌}
use native.Mathlib.Nat.{eq-or-lt_of_le, le_of_suc-le-suc, lt_of_lt_of_le}
use native.Mathlib.Decide.{ℕ_discrete}
use native.Mathlib.Numerals.{add-one}
use native.Mathlib.Omega.{arith}
use lib.ListN.{get_or}
use Rattle.laws.specs.Bits.{has}
use Rattle.buffer.specs.Views.{start_in, target_in, EdgeIn, Held}
use Rattle.tables.specs.Tables.{Grown, PairsJoined}
use Rattle.tables.specs.Held.{EdgesWithin}
use Rattle.successors.specs.Joined.{RowsJoined, JoinedPast}
use Rattle.tables.specs.Sixteen.{InRows}
use Rattle.tables.proofs.KeptLaws.{grown_none, grown_both, target_same}

-- ---- one node

-- the rows below i are joined
pub record JoiningRows (l m : List ℕ) (n : ℕ) (rows : List ℕ) (i : ℕ) : Type 0 where
  pub grown : Grown l m
  pub here : (p q : ℕ) → p < i → p < 16 → InRows rows p q → Held m n p q
  pub new : (k p q : ℕ) → k < 512 → p < 16 → Held m k p q → Held l k p q ⊎ ((k ≡ n) × InRows rows p q)

-- none yet
pub rows_start : (l : List ℕ) (n : ℕ) (rows : List ℕ) → JoiningRows l l n rows 0
rows_start l n rows = record { grown = grown_none l; here = λ p q a. absurd (omega arith); new = λ k p q a b h. inl h }

-- a row more
pub rows_joined
    : {l m k : List ℕ} {n i s : ℕ} {rows : List ℕ} → n < 512 → JoiningRows l m n rows i → s ≡ get_or rows i 0
    → PairsJoined m k n i s → JoiningRows l k n rows (i + 1)
rows_joined {l} {m} {k} {n} {i} {s} {rows} node inv is joined = record {
  grown = grown_both inv.grown joined.grown;
  here = λ p q a b h.
      by_cases (ℕ_discrete p i)
      (λ (e : p ≡ i).
      subst (λ (x : ℕ). Held k n x q) (sym e) (joined.here q (subst (λ (x : ℕ). has x q ≡ true) (ap (λ (x : ℕ). get_or rows x 0) e ∙ sym is) h)))
      (λ (ne : p ≡ i → ⊥). joined.grown.held n p q node b (inv.here p q (omega arith) b h));
  new = λ t p q a b h.
      ⊎_elim
      (λ (y : Held m t p q). inv.new t p q a b y)
      (λ (y : (t ≡ n) × ((p ≡ i) × (has s q ≡ true))).
      inr (y.0, subst (λ (x : ℕ). has x q ≡ true) (is ∙ ap (λ (x : ℕ). get_or rows x 0) (sym y.1.0)) y.1.1))
      (joined.new t p q a b h);
}

-- all of them
pub rows_end : {l m : List ℕ} {n i : ℕ} {rows : List ℕ} → JoiningRows l m n rows i → 16 ≤ i → RowsJoined l m n rows
rows_end inv all = record { grown = inv.grown; here = λ p q a h. inv.here p q (omega arith) a h; new = inv.new }

-- ---- the successors of a node

-- the rows are joined at the ends of the edges of node n below i
pub record Joining (l m : List ℕ) (n : ℕ) (rows : List ℕ) (i : ℕ) : Type 0 where
  pub from : start_in l n ≤ i
  pub grown : Grown l m
  pub here : (x p q : ℕ) → start_in l n ≤ x → x < i → p < 16 → InRows rows p q → Held m (target_in l x) p q
  pub new : (k p q : ℕ) → k < 512 → p < 16 → Held m k p q → Held l k p q ⊎ (EdgeIn l n k × InRows rows p q)

-- the walk starts at the first edge
pub joining_start : (l : List ℕ) (n : ℕ) (rows : List ℕ) (i : ℕ) → i ≡ start_in l n → Joining l l n rows i
joining_start l n rows i e = record {
  from = omega arith;
  grown = grown_none l;
  here = λ x p q a b. absurd (omega arith);
  new = λ k p q a b h. inl h;
}

-- an edge of the walk lies within its part
pub index_within : (l : List ℕ) (n i e : ℕ) → EdgesWithin l n → e ≡ start_in l (n + 1) → i < e → i < 2048
index_within l n i e within end before = omega (arith, within.last, add-one n, ap (start_in l) (add-one n))

module _ {l m : List ℕ} {n i k e : ℕ} {rows : List ℕ} (within : EdgesWithin l n) (end : e ≡ start_in l (n + 1))
    (inv : Joining l m n rows i) (before : i < e) (target : k ≡ target_in m i) where
  -- it is an edge of the node
  last : i < start_in l (suc n)
  last = omega (arith, ap (start_in l) (add-one n))

  -- and ends where it did
  same : k ≡ target_in l i
  same = target ∙ target_same inv.grown.kept i (index_within l n i e within end before)

  -- at a node
  pub target_within : k < 512
  target_within = rw same (within.targets i inv.from last)

  -- a turn joins the rows at the end of edge i
  pub joining_more : (m' : List ℕ) → RowsJoined m m' k rows → Joining l m' n rows (i + 1)
  joining_more m' joined = record {
    from = omega (arith, inv.from);
    grown = grown_both inv.grown joined.grown;
    here = λ x p q a b small h.
        ⊎_elim
        (λ (y : x ≡ i). subst (λ (t : ℕ). Held m' t p q) (same ∙ ap (target_in l) (sym y)) (joined.here p q small h))
        (λ (y : x < i).
        joined.grown.held (target_in l x) p q (within.targets x a (omega (arith, last))) small (inv.here x p q a y small h))
        (eq-or-lt_of_le (le_of_suc-le-suc (rw add-one at b)));
    new = λ t p q a b h.
        ⊎_elim
        (λ (y : Held m t p q). inv.new t p q a b y)
        (λ (y : (t ≡ k) × InRows rows p q).
        inr (record { index = i; first = inv.from; last = last; target = sym (y.0 ∙ same) }, y.1))
        (joined.new t p q a b h);
  }

-- past the last edge they are joined at all
pub joining_end
    : (l m : List ℕ) (n : ℕ) (rows : List ℕ) (i e : ℕ) → e ≡ start_in l (n + 1) → Joining l m n rows i → e ≤ i
    → JoinedPast l m n rows
joining_end l m n rows i e end inv past = record {
  grown = inv.grown;
  here = λ k p q edge small h.
      subst (λ (t : ℕ). Held m t p q) edge.target
      (inv.here edge.index p q edge.first (lt_of_lt_of_le edge.last (omega (arith, at_end))) small h);
  new = inv.new;
}
  where
    at_end : e ≡ start_in l (suc n)
    at_end = rw add-one at end
