-- The order of edges: the test `is_before` says `Before`, a strict total order; ascending edges are in order at any two places, and the
-- test of ascending numbers says that the edges there ascend between nodes below a bound; edges hold one that stands at a place.
-- Assumes nothing.
use mathlib.Core.Path.{◌≡◌, refl, sym, ap, ◌∙◌}
use mathlib.Core.Logic.{inl, inr, ⊎_elim, ◌↔◌}
use mathlib.Core.Bool.{Bool, true, false, ◌&&◌, and-eq-true_iff, true≢false}
use mathlib.Core.List.{List, [], ◌∷◌}
use Prim.Native.Nat.{ℕ, zero, suc, ◌<◌, zero-le, suc-le-suc}
use native.Mathlib.Nat.{le_refl, le_of_suc-le-suc, not-suc-le-zero}
use native.Mathlib.Omega.{arith}
use lib.Dec.{eqb, ltb}
use lib.ListN.{length, get_or}
use borrow.Author.Tests.{ltb-true, lt-ltb, eqb-true, eq-eqb}
use Rattle.laws.proofs.Bounded.{all_at, all_of}
use Rattle.laws.proofs.Tests.{fails_of, or_passes, or_left, or_right}
use Rattle.job.specs.Job.{Edge, edge, holds}
use Rattle.jobfile.specs.Spellable.{Before, Ascending, no_edge, one_edge, next_edge}
use Rattle.arrivals.specs.Arrivals.{edge_at, edges_in, is_before, is_after_last, ascend_below}
use Rattle.arrivals.proofs.PlacedLaws.{length_edges_in, get_d_edges_in}

-- ---- two edges

-- edges with the same ends are one
pub edge_ext : (d e : Edge) → d.from ≡ e.from → d.to ≡ e.to → d ≡ e
edge_ext d e p q = ap (λ (m : ℕ). edge m d.to) p ∙ ap (λ (n : ℕ). edge e.from n) q

-- the test is passed where an edge is before another
pub before_true : (d e : Edge) → is_before d e ≡ true → Before d e
before_true d e h =
    ⊎_elim
    (λ (t : ltb d.from e.from ≡ true). inl (ltb-true d.from e.from t))
    (λ (t : (eqb d.from e.from && ltb d.to e.to) ≡ true).
    let both = (and-eq-true_iff (eqb d.from e.from) (ltb d.to e.to)).0 t in
    inr (eqb-true d.from e.from both.0, ltb-true d.to e.to both.1))
    (or_passes (ltb d.from e.from) (eqb d.from e.from && ltb d.to e.to) h)

-- an edge that is before another passes it
pub before_of : (d e : Edge) → Before d e → is_before d e ≡ true
before_of d e (inl h) = or_left (ltb d.from e.from) (eqb d.from e.from && ltb d.to e.to) (lt-ltb d.from e.from h)
before_of d e (inr h) =
    or_right (ltb d.from e.from) (eqb d.from e.from && ltb d.to e.to)
    ((and-eq-true_iff (eqb d.from e.from) (ltb d.to e.to)).1
    (eq-eqb d.from e.from h.0, lt-ltb d.to e.to h.1))

-- the test says `Before`
pub before_says : (d e : Edge) → (is_before d e ≡ true) ↔ Before d e
before_says d e = (before_true d e, before_of d e)

-- no edge is before itself
pub Before-irreflexive : (e : Edge) → Before e e → ⊥
Before-irreflexive e (inl h) = omega arith
Before-irreflexive e (inr h) = omega arith

-- of two edges one alone is before the other
pub Before-asymmetric : (d e : Edge) → Before d e → Before e d → ⊥
Before-asymmetric d e (inl h) (inl k) = omega arith
Before-asymmetric d e (inl h) (inr k) = omega arith
Before-asymmetric d e (inr h) (inl k) = omega arith
Before-asymmetric d e (inr h) (inr k) = omega arith

-- before one that is before a third
pub Before-trans : (c d e : Edge) → Before c d → Before d e → Before c e
Before-trans c d e (inl h) (inl k) = inl (omega arith)
Before-trans c d e (inl h) (inr k) = inl (omega arith)
Before-trans c d e (inr h) (inl k) = inl (omega arith)
Before-trans c d e (inr h) (inr k) = inr (omega arith)

-- no edge is before itself
pub before_irreflexive : (e : Edge) → is_before e e ≡ false
before_irreflexive e = fails_of (is_before e e) (λ h. Before-irreflexive e (before_true e e h))

-- of two edges one alone is before the other
pub before_asymmetric : (d e : Edge) → is_before d e ≡ true → is_before e d ≡ false
before_asymmetric d e h = fails_of (is_before e d) (λ k. Before-asymmetric d e (before_true d e h) (before_true e d k))

-- before one that is before a third
pub before_trans : (c d e : Edge) → is_before c d ≡ true → is_before d e ≡ true → is_before c e ≡ true
before_trans c d e h k = before_of c e (Before-trans c d e (before_true c d h) (before_true d e k))

-- what is not before in either way is the same
pub before_total : (d e : Edge) → is_before d e ≡ false → is_before e d ≡ false → d ≡ e
before_total d e h k =
    let miss : Before d e → ⊥ = λ b. true≢false (sym (before_of d e b) ∙ h) in
    let back : Before e d → ⊥ = λ b. true≢false (sym (before_of e d b) ∙ k) in
    let no_less : (d.from < e.from) → ⊥ = λ r. miss (inl r) in
    let no_more : (e.from < d.from) → ⊥ = λ r. back (inl r) in
    let from : d.from ≡ e.from = omega arith in
    let less : (d.to < e.to) → ⊥ = λ r. miss (inr (from, r)) in
    let more : (e.to < d.to) → ⊥ = λ r. back (inr (sym from, r)) in
    edge_ext d e from (omega arith)

-- ---- ascending edges

-- the first edge is before all others
pub first_before : {e : Edge} {es : List Edge} (d : Edge) → Ascending (e ∷ es) → (j : ℕ) → j < length es → Before e (get_or es j d)
first_before d one_edge j h = absurd (not-suc-le-zero h)
first_before d (next_edge next more) zero h = next
first_before {e} d (next_edge {e = f} {es = es} next more) (suc j) h =
    Before-trans e f (get_or es j d) next (first_before d more j (le_of_suc-le-suc h))

-- the others ascend
pub rest_ascends : {e : Edge} {es : List Edge} → Ascending (e ∷ es) → Ascending es
rest_ascends one_edge = no_edge
rest_ascends (next_edge next more) = more

-- at any two places the edges are in order
pub ascending_before
    : (es : List Edge) (d : Edge) → Ascending es → (i j : ℕ) → i < j → j < length es → Before (get_or es i d) (get_or es j d)
ascending_before [] d up i j h l = absurd (not-suc-le-zero l)
ascending_before (e ∷ es) d up i zero h l = absurd (not-suc-le-zero h)
ascending_before (e ∷ es) d up zero (suc j) h l = first_before d up j (le_of_suc-le-suc l)
ascending_before (e ∷ es) d up (suc i) (suc j) h l =
    ascending_before es d (rest_ascends up) i j (le_of_suc-le-suc h) (le_of_suc-le-suc l)

-- the test of their order passes there
pub ascending_pairs
    : (es : List Edge) (d : Edge) → Ascending es → (i j : ℕ) → i < j → j < length es → is_before (get_or es i d) (get_or es j d) ≡ true
ascending_pairs es d up i j h l = before_of (get_or es i d) (get_or es j d) (ascending_before es d up i j h l)

-- edges that are in order at each two places beside each other ascend
pub ascending_of
    : (es : List Edge) (d : Edge) → ((i : ℕ) → suc i < length es → Before (get_or es i d) (get_or es (suc i) d)) → Ascending es
ascending_of [] d h = no_edge
ascending_of (e ∷ []) d h = one_edge
ascending_of (e ∷ f ∷ es) d h = next_edge (h 0 (omega arith)) (ascending_of (f ∷ es) d (λ i l. h (suc i) (suc-le-suc l)))

-- ---- ascending numbers

-- the edges at any two places of a list are in order where its edges ascend
pairs_there
    : (k : ℕ) (l : List ℕ) → Ascending (edges_in k l) → (i j : ℕ) → i < j → j < k → is_before (edge_at l i) (edge_at l j) ≡ true
pairs_there k l up i j b c =
    let long : j < length (edges_in k l) = rw (length_edges_in k l) c in
    rw (get_d_edges_in k l i (edge 0 0) (omega arith), get_d_edges_in k l j (edge 0 0) c)
    at (ascending_pairs (edges_in k l) (edge 0 0) up i j b long)

module _ (n k : ℕ) (l : List ℕ) where
  -- what the test asks of a place
  abbrev Good : ℕ → Bool
  Good i = ltb (edge_at l i).from n && ltb (edge_at l i).to n && is_after_last l i

  -- the test at a place, taken apart
  good_at
      : ascend_below n k l ≡ true → (i : ℕ) → i < k
      → ((edge_at l i).from < n) × ((edge_at l i).to < n) × (is_after_last l i ≡ true)
  unfolding ascend_below
  good_at h i b =
      let all = (and-eq-true_iff (ltb (edge_at l i).from n && ltb (edge_at l i).to n) (is_after_last l i)).0 (all_at k Good h i b) in
      let ends = (and-eq-true_iff (ltb (edge_at l i).from n) (ltb (edge_at l i).to n)).0 all.0 in
      (ltb-true (edge_at l i).from n ends.0, ltb-true (edge_at l i).to n ends.1, all.1)

  -- the ends of the edges are below the bound
  pub ascend_within : ascend_below n k l ≡ true → (i : ℕ) → i < k → ((edge_at l i).from < n) × ((edge_at l i).to < n)
  ascend_within h i b = let g = good_at h i b in (g.0, g.1)

  -- so they lead to nodes below it
  pub ends_below : ascend_below n k l ≡ true → (i : ℕ) → i < k → (edge_at l i).to < n
  ends_below h i b = (ascend_within h i b).1

  -- each edge is after the one before it
  pub ascend_next : ascend_below n k l ≡ true → (i : ℕ) → suc i < k → Before (edge_at l i) (edge_at l (suc i))
  ascend_next h i b = before_true (edge_at l i) (edge_at l (suc i)) (good_at h (suc i) b).2

  -- the edges ascend
  pub ascend_ascending : ascend_below n k l ≡ true → Ascending (edges_in k l)
  ascend_ascending h =
      ascending_of (edges_in k l) (edge 0 0)
      (λ i b.
      let b' : suc i < k = rw (length_edges_in k l) at b in
      rw (get_d_edges_in k l i (edge 0 0) (omega arith), get_d_edges_in k l (suc i) (edge 0 0) b') (ascend_next h i b'))

  -- at any two places the edges are in order
  pub ascend_pairs : ascend_below n k l ≡ true → (i j : ℕ) → i < j → j < k → is_before (edge_at l i) (edge_at l j) ≡ true
  ascend_pairs h i j b c = pairs_there k l (ascend_ascending h) i j b c

  -- edges that ascend between nodes below the bound pass the test
  pub ascend_of
      : Ascending (edges_in k l) → ((i : ℕ) → i < k → ((edge_at l i).from < n) × ((edge_at l i).to < n)) → ascend_below n k l ≡ true
  unfolding ascend_below
  ascend_of up ends =
      all_of k Good
      (λ i b.
      (and-eq-true_iff (ltb (edge_at l i).from n && ltb (edge_at l i).to n) (is_after_last l i)).1 (
        (and-eq-true_iff (ltb (edge_at l i).from n) (ltb (edge_at l i).to n)).1
            (lt-ltb (edge_at l i).from n (ends i b).0, lt-ltb (edge_at l i).to n (ends i b).1),
        after i b,
      ))
    where
      after : (i : ℕ) → i < k → is_after_last l i ≡ true
      after zero b = refl
      after (suc i) b = pairs_there k l up i (suc i) (le_refl (suc i)) b

-- ---- an edge among others

-- where the edges hold one, it stands at a place
pub holds_at : (es : List Edge) (a b : ℕ) (d : Edge) → holds es a b ≡ true → (i : ℕ) × (i < length es) × (get_or es i d ≡ edge a b)
unfolding holds
holds_at [] a b d h = absurd (true≢false (sym h))
holds_at (e ∷ es) a b d h =
    ⊎_elim
    (λ (t : (eqb e.from a && eqb e.to b) ≡ true).
    let both = (and-eq-true_iff (eqb e.from a) (eqb e.to b)).0 t in
    (0, suc-le-suc zero-le, edge_ext e (edge a b) (eqb-true e.from a both.0) (eqb-true e.to b both.1)))
    (λ (t : holds es a b ≡ true). let r = holds_at es a b d t in (suc r.0, suc-le-suc r.1, r.2))
    (or_passes (eqb e.from a && eqb e.to b) (holds es a b) h)

-- the edges hold each that stands at a place
pub holds_of : (es : List Edge) (d : Edge) (i : ℕ) → i < length es → holds es (get_or es i d).from (get_or es i d).to ≡ true
unfolding holds
holds_of [] d i h = absurd (not-suc-le-zero h)
holds_of (e ∷ es) d zero h =
    or_left (eqb e.from e.from && eqb e.to e.to) (holds es e.from e.to)
    ((and-eq-true_iff (eqb e.from e.from) (eqb e.to e.to)).1
    (eq-eqb e.from e.from refl, eq-eqb e.to e.to refl))
holds_of (e ∷ es) d (suc i) h =
    or_right (eqb e.from (get_or es i d).from && eqb e.to (get_or es i d).to) (holds es (get_or es i d).from (get_or es i d).to)
    (holds_of es d i (le_of_suc-le-suc h))

-- edges hold one exactly where it stands at a place
pub holds_says : (es : List Edge) (a b : ℕ) (d : Edge) → (holds es a b ≡ true) ↔ ((i : ℕ) × (i < length es) × (get_or es i d ≡ edge a b))
holds_says es a b d = (holds_at es a b d, λ r. rw (ap (λ (e : Edge). e.from) r.2, ap (λ (e : Edge). e.to) r.2) at (holds_of es d r.0 r.1))
