-- The F lines of the edges: they are good lines where the edges ascend within the nodes, and good F lines are those of the edges
-- that they spell. Each edge after the one before it.
-- Assumes nothing.
use Prim.Native.Nat.{ℕ, zero, suc, ◌≤◌, ◌<◌}
use mathlib.Core.Path.{◌≡◌, refl, sym, ap, ◌∙◌}
use mathlib.Core.Logic.{◌⊎◌, inl, inr, ⊎_elim}
use mathlib.Core.Bool.{true, ◌&&◌, and-eq-true_iff, true≢false}
use mathlib.Core.List.{List, [], ◌∷◌, ◌++◌, map}
use native.Mathlib.Omega.{arith}
use lib.Dec.{eqb}
use lib.ListN.{length}
use borrow.Author.Tests.{eq-eqb, eqb-true}
use Rattle.laws.specs.Bounded.{tab}
use Rattle.laws.proofs.Tests.{or_passes, or_right}
use Rattle.job.specs.Job.{Edge, holds}
use Rattle.lines.specs.Line.{line, at, write_lines}
use Rattle.jobfile.specs.File.{ascends, edge_line, edge_of, write_edges}
use Rattle.jobfile.specs.Refusal.{EdgeWithin}
use Rattle.lines.specs.Written.{Fits, GoodLines, good_none, Good-more}
use Rattle.jobfile.specs.Spellable.{Before, Ascending, no_edge, one_edge, next_edge}
use Rattle.jobfile.proofs.WithinLaws.{edge_says}
use Rattle.jobfile.proofs.SpelledNodes.{list_tab}

-- ---- the lines of edges

-- the numbers of an edge's line
abbrev pub edge_numbers : Edge → List ℕ
edge_numbers e = e.from ∷ e.to ∷ []

-- they are what is written
pub edges_written : (es : List Edge) → write_edges es ≡ write_lines 70 (map edge_numbers es)
unfolding write_edges write_lines
edges_written [] = refl
edges_written (e ∷ es) = ap (λ (l : List ℕ). line 70 (edge_numbers e) ++ l) (edges_written es)

-- the edges are read back
pub edges_read : (es : List Edge) → map edge_of (map edge_numbers es) ≡ es
edges_read [] = refl
edges_read (e ∷ es) = ap {B = List Edge} (λ l. e ∷ l) (edges_read es)

-- ---- what a good line says

-- a line that ascends after another of two numbers is an edge after an edge
before_exact
    : (n : ℕ) (before ns : List ℕ) → length before ≡ 2 → EdgeWithin n before ns → Before (edge_of before) (edge_of ns)
before_exact n before ns two w = go w.ascends
  where
    go
        : (before ≡ []) ⊎ ((at before 0 < at ns 0) ⊎ ((at before 0 ≡ at ns 0) × (at before 1 < at ns 1)))
        → Before (edge_of before) (edge_of ns)
    go (inl e) = absurd (omega (arith, ap length e))
    go (inr next) = next

-- an edge within n nodes
abbrev pub EdgeBelow : ℕ → Edge → Type 0
EdgeBelow n e = (e.from < n) × (e.to < n)

-- ---- good lines

module _ (n : ℕ) where
  -- what the test of an F line says
  edge_test
      : (i : ℕ) (before ns : List ℕ) → length ns ≡ 2 → (edge_line n).good i before ns ≡ true
      → (edge_numbers (edge_of ns) ≡ ns) × EdgeBelow n (edge_of ns) × EdgeWithin n before ns
  unfolding tab
  edge_test i before ns two t =
      let w = (edge_says n i before ns).0 t in
      let whole : ns ≡ at ns 0 ∷ at ns 1 ∷ [] = list_tab ns ∙ ap (λ (k : ℕ). tab k (at ns)) two in
      (sym whole, (w.from, w.to), w)

  -- good F lines are those of their edges
  pub edges_exact
      : {i : ℕ} {before : List ℕ} {ls : List (List ℕ)} → GoodLines (edge_line n) i before ls → map edge_numbers (map edge_of ls) ≡ ls
  edges_exact good_none = refl
  edges_exact (Good-more {i} {before} {ns} {ls} count fit good more) = rw ((edge_test i before ns count good).0, edges_exact more)

  -- the edges of good lines ascend, after the line before
  edges_after
      : {i : ℕ} {before : List ℕ} {ls : List (List ℕ)} → length before ≡ 2 → GoodLines (edge_line n) i before ls
      → Ascending (edge_of before ∷ map edge_of ls)
  edges_after two good_none = one_edge
  edges_after two (Good-more {i} {before} {ns} {ls} count fit good more) =
      next_edge (before_exact n before ns two (edge_test i before ns count good).2) (edges_after count more)

  -- the edges of good lines ascend
  pub edges_ascend : {i : ℕ} {before : List ℕ} {ls : List (List ℕ)} → GoodLines (edge_line n) i before ls → Ascending (map edge_of ls)
  edges_ascend good_none = no_edge
  edges_ascend (Good-more count fit good more) = edges_after count more

  -- an edge among those of good lines is within the nodes
  pub edges_below
      : {i : ℕ} {before : List ℕ} {ls : List (List ℕ)} → GoodLines (edge_line n) i before ls → (p q : ℕ)
      → holds (map edge_of ls) p q ≡ true → (p < n) × (q < n)
  unfolding holds
  edges_below good_none p q h = absurd (true≢false (sym h))
  edges_below (Good-more {i} {before} {ns} {ls} count fit good more) p q h =
      ⊎_elim
      (λ (t : (eqb (at ns 0) p && eqb (at ns 1) q) ≡ true).
      let both = (and-eq-true_iff (eqb (at ns 0) p) (eqb (at ns 1) q)).0 t in
      let (from, to) = (edge_test i before ns count good).1 in
      (rw (eqb-true (at ns 0) p both.0) at from, rw (eqb-true (at ns 1) q both.1) at to))
      (λ (t : holds (map edge_of ls) p q ≡ true). edges_below more p q t)
      (or_passes (eqb (at ns 0) p && eqb (at ns 1) q) (holds (map edge_of ls) p q) h)

  -- the numbers of an edge within few nodes have few digits
  numbers_fit : (e : Edge) → n ≤ 1000000 → EdgeBelow n e → Fits (edge_numbers e)
  numbers_fit e few below zero = omega arith
  numbers_fit e few below (suc zero) = omega arith
  numbers_fit e few below (suc (suc k)) = omega arith

  -- all edges are within the nodes
  abbrev EdgesBelow : List Edge → Type 0
  EdgesBelow es = (p q : ℕ) → holds es p q ≡ true → (p < n) × (q < n)

  -- the first one is
  first_below : (e : Edge) (es : List Edge) → EdgesBelow (e ∷ es) → EdgeBelow n e
  unfolding holds
  first_below e es below =
      below e.from e.to (rw (eq-eqb e.from e.from refl, eq-eqb e.to e.to refl))

  -- the others are
  rest_below : (e : Edge) (es : List Edge) → EdgesBelow (e ∷ es) → EdgesBelow es
  unfolding holds
  rest_below e es below p q h = below p q (or_right (eqb e.from p && eqb e.to q) (holds es p q) h)

  -- the lines of edges that ascend after d are good
  edges_next
      : (i : ℕ) (d : Edge) (es : List Edge) → n ≤ 1000000 → EdgesBelow es → Ascending (d ∷ es)
      → GoodLines (edge_line n) i (edge_numbers d) (map edge_numbers es)
  edges_next i d es few below one_edge = good_none
  edges_next i d es few below (next_edge {e = e} {es = rest} next more) =
      let e_below = first_below e rest below in
      Good-more refl (numbers_fit e few e_below)
      ((edge_says n i (edge_numbers d) (edge_numbers e)).1 (record { from = e_below.0; to = e_below.1; ascends = inr next }))
      (edges_next (suc i) e rest few (rest_below e rest below) more)

  -- the lines of edges that ascend are good
  pub edges_good
      : (es : List Edge) → n ≤ 1000000 → EdgesBelow es → Ascending es → GoodLines (edge_line n) 0 [] (map edge_numbers es)
  edges_good [] few below up = good_none
  edges_good (e ∷ es) few below up =
      let e_below = first_below e es below in
      Good-more refl (numbers_fit e few e_below)
      ((edge_says n 0 [] (edge_numbers e)).1 (record { from = e_below.0; to = e_below.1; ascends = inl refl }))
      (edges_next 1 e es few (rest_below e es below) up)
