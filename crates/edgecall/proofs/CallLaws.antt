-- What the calls on edges answer and leave, test by test.
-- Assumes nothing.
use Rattle.std.specs.Prelude.{Ok}
use mathlib.Core.Path.{◌≡◌, sym, ap, ◌∙◌}
use mathlib.Core.Bool.{Bool, true, false, ◌&&◌, true≢false, and-eq-true_iff}
use mathlib.Core.List.{List}
use Prim.Native.Nat.{ℕ, ◌+◌, ◌*◌, ◌-◌, ◌≤◌, ◌<◌}
use native.Mathlib.Omega.{arith}
use native.Mathlib.Decide.{ℕ_discrete}
use mathlib.Core.Logic.{by_cases, ◌≢◌}
use lib.Dec.{eqb, leb, ltb}
use lib.ListN.{length}
use borrow.Author.Tests.{lt-ltb, ltb-true, le-leb, eq-eqb, eqb-true}
use Rattle.laws.proofs.Tests.{test_ext, fails_of}
use Rattle.job.specs.Job.{Edge, edge, holds}
use Rattle.arrivals.specs.Arrivals.{edge_at, is_before, with_edge, without_edge, Lists, lists, edges_of, is_held, relisted, edited, counted, refused, may_add, may_drop, added, dropped}
use Rattle.arrivals.specs.ArrivalsSay.{Addable, Droppable}
use Rattle.arrivals.specs.Shifts.{Downward, Cut}
use Rattle.arrivals.proofs.OrderLaws.{before_trans, ascend_pairs, ascend_ascending, edge_ext, holds_says}
use Rattle.arrivals.proofs.PlacedLaws.{length_edges_in, get_d_edges_in}
use Rattle.arrivals.proofs.WithLaws.{with_counts, without_counts}
use Rattle.arrivals.proofs.FitsLaws.{held_parts}
use Rattle.arrivals.proofs.HeldLaws.{add_at, drop_at}
use Rattle.arrivals.proofs.EditLaws.{at_place}
use Rattle.edgecall.specs.Standing.{ends_below, stands_at}

-- ends that are nodes, and ends of which one is none
pub ends_nodes : (n a b : ℕ) (r : Bool) → r ≡ ends_below n a b → r ≡ true → (a < n) × (b < n)
ends_nodes n a b r e h =
    let both = (and-eq-true_iff (ltb a n) (ltb b n)).0 (sym e ∙ h) in (ltb-true a n both.0, ltb-true b n both.1)

pub ends_none : (n a b : ℕ) (r : Bool) → r ≡ ends_below n a b → r ≡ false → a < n → b < n → ⊥
ends_none n a b r e h from to =
    true≢false (sym ((and-eq-true_iff (ltb a n) (ltb b n)).1 (lt-ltb a n from, lt-ltb b n to)) ∙ sym e ∙ h)

-- edges that ascend are before an edge first and then not
pub edge_downward
    : (n k a b : ℕ) (l : Lists) → is_held n k l ≡ true → Downward (λ i. is_before (edge_at l.edges i) (edge a b)) 0 k
edge_downward n k a b l h i j z le m t =
    by_cases (ℕ_discrete i j) (λ (q : i ≡ j). rw q t)
    (λ (q : i ≢ j).
    before_trans (edge_at l.edges i) (edge_at l.edges j) (edge a b)
    (ascend_pairs n k l.edges (held_parts n k l h).ascend i j (omega arith) m) t)

-- the edge stands at its place exactly where it is held
pub stands_held
    : (n k p a b : ℕ) (l : Lists) → is_held n k l ≡ true → b < n → Cut (λ i. is_before (edge_at l.edges i) (edge a b)) 0 k p
    → stands_at l.edges k p a b ≡ holds (edges_of k l) a b
stands_held n k p a b l h to c =
    let e = edge a b in
    let here = edge_at l.edges p in
    test_ext (stands_at l.edges k p a b) (holds (edges_of k l) a b)
    (λ t.
    let both = (and-eq-true_iff (ltb p k) (eqb here.from a && eqb here.to b)).0 t in
    let ends = (and-eq-true_iff (eqb here.from a) (eqb here.to b)).0 both.1 in
    let below : p < k = ltb-true p k both.0 in
    (holds_says (edges_of k l) a b e).1 (
      p,
      omega (arith, length_edges_in k l.edges),
      get_d_edges_in k l.edges p e below ∙ edge_ext here e (eqb-true here.from a ends.0) (eqb-true here.to b ends.1),
    ))
    (λ t.
    let w = at_place n k a b p l h to c t in
    (and-eq-true_iff (ltb p k) (eqb here.from a && eqb here.to b)).1 (
      lt-ltb p k w.0,
      (and-eq-true_iff (eqb here.from a) (eqb here.to b)).1
          (eq-eqb here.from a (ap (λ (d : Edge). d.from) w.1), eq-eqb here.to b (ap (λ (d : Edge). d.to) w.1)),
    ))

-- ---- an addition

module _ (n k a b : ℕ) (l : Lists) where
  -- one that may not be made is refused
  pub add_refused : (Addable n a b (edges_of k l) l → ⊥) → refused l ≡ added n k a b l
  unfolding added
  add_refused h =
      let t : (is_held n k l && may_add n k a b l) ≡ false = fails_of (is_held n k l && may_add n k a b l) (λ e. h (add_at n k a b l e)) in
      simp t

  pub add_unheld : is_held n k l ≡ false → refused l ≡ added n k a b l
  unfolding added
  add_unheld h = simp h

  -- one that is made answers the count and leaves the edges with their index
  pub add_made
      : (es ps ss : List ℕ) → is_held n k l ≡ true → a < n → b < n → k < 2048 → 2 * k + 2 ≤ length l.edges
      → k < length l.predecessors → holds (edges_of k l) a b ≡ false
      → lists es ps ss ≡ relisted n k (with_edge (edge a b) (edges_of k l)) l → edited (Ok (k + 1)) es ps ss ≡ added n k a b l
  unfolding added may_add counted
  add_made es ps ss held from to room long more absent left =
      let more_long : leb (k + 1) (length l.predecessors) ≡ true = le-leb (k + 1) (length l.predecessors) (omega arith) in
      let count : length (with_edge (edge a b) (edges_of k l)) ≡ k + 1 =
      with_counts (edge a b) (edges_of k l) ∙ ap (λ (m : ℕ). m + 1) (length_edges_in k l.edges) in
      simp (
        held,
        lt-ltb a n from,
        lt-ltb b n to,
        lt-ltb k 2048 room,
        le-leb (2 * k + 2) (length l.edges) long,
        more_long,
        absent,
        count,
        left,
      )

-- ---- a removal

module _ (n k a b : ℕ) (l : Lists) where
  -- one that may not be made is refused
  pub drop_refused : (Droppable n a b (edges_of k l) l → ⊥) → refused l ≡ dropped n k a b l
  unfolding dropped
  drop_refused h =
      let t : (is_held n k l && may_drop n k a b l) ≡ false = fails_of (is_held n k l && may_drop n k a b l) (λ e. h (drop_at n k a b l e)) in
      simp t

  pub drop_unheld : is_held n k l ≡ false → refused l ≡ dropped n k a b l
  unfolding dropped
  drop_unheld h = simp h

  -- one that is made answers the count and leaves the other edges with their index
  pub drop_made
      : (es ps ss : List ℕ) → is_held n k l ≡ true → a < n → b < n → holds (edges_of k l) a b ≡ true
      → lists es ps ss ≡ relisted n k (without_edge (edge a b) (edges_of k l)) l → edited (Ok (k - 1)) es ps ss ≡ dropped n k a b l
  unfolding dropped may_drop counted
  drop_made es ps ss held from to present left =
      let up = ascend_ascending n k l.edges (held_parts n k l held).ascend in
      let count : length (without_edge (edge a b) (edges_of k l)) ≡ k - 1 =
      omega (arith, without_counts (edge a b) (edges_of k l) up present, length_edges_in k l.edges) in
      simp (held, lt-ltb a n from, lt-ltb b n to, present, count, left)

  -- there is an edge to drop
  pub some_edge : holds (edges_of k l) a b ≡ true → 0 < k
  some_edge h = let w = (holds_says (edges_of k l) a b (edge a b)).0 h in omega (arith, w.1, length_edges_in k l.edges)
