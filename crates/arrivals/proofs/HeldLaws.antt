-- The test of the lent lists passes exactly where they hold edges with their index, and the calls accept exactly what may be added,
-- dropped or indexed. Why: the numbers of a list are those of its edges, and the index has as many places as there are edges.
-- Assumes nothing.
use mathlib.Core.Path.{◌≡◌, sym, ap, subst, ◌∙◌}
use mathlib.Core.Logic.{inl, inr, ⊎_elim}
use mathlib.Core.Bool.{Bool, true, false, cond, not, ◌&&◌, and-eq-true_iff, true≢false}
use mathlib.Core.List.{List}
use Prim.Native.Nat.{ℕ, ◌+◌, ◌*◌}
use lib.Dec.{leb, ltb}
use lib.ListN.{length}
use borrow.Author.Tests.{leb-true, le-leb, ltb-true, lt-ltb, not-true}
use Rattle.laws.proofs.Tests.{fails_of, passes_or_fails}
use Rattle.job.specs.Job.{Edge, edge, holds}
use Rattle.arrivals.specs.Arrivals.{ascend_below, arrivals, starts_of, with_edge, without_edge, Lists, edges_of, fits, begins, is_fresh, is_held, Edited, counted, refused, may_add, may_drop, added, dropped, indexed}
use Rattle.arrivals.specs.ArrivalsSay.{Held, HeldSays, Addable, Droppable, Indexable, Decides, EditsSay}
use Rattle.arrivals.proofs.ListLaws.{take_long, begins_take, begins_of}
use Rattle.arrivals.proofs.OrderLaws.{ascend_ascending, ascend_within, ascend_of}
use Rattle.arrivals.proofs.PlacedLaws.{length_edges_in}
use Rattle.arrivals.proofs.FitsLaws.{Fits, fits_true, fits_of}
use Rattle.arrivals.proofs.IndexLaws.{length_starts}
use Rattle.arrivals.proofs.NumbersLaws.{numbers_first, edges_taken, numbers_say, within_at, within_of, length_index}

-- ---- the tests of the lists

-- two tests that pass
and_of : {a b : Bool} → a ≡ true → b ≡ true → (a && b) ≡ true
and_of {a} {b} p q = (and-eq-true_iff a b).1 (p, q)

-- lists that fit ascending edges begin with edges that can be indexed
pub index_at : (n k : ℕ) (l : Lists) → (fits n k l && ascend_below n k l.edges) ≡ true → Indexable n (edges_of k l) l
index_at n k l h =
    let both = (and-eq-true_iff (fits n k l) (ascend_below n k l.edges)).0 h in
    let f = fits_true n k l both.0 in
    let long = length_edges_in k l.edges in
    record {
      some_node = f.some_node;
      few_nodes = f.few_nodes;
      few_edges = rw long f.few_edges;
      ascending = ascend_ascending n k l.edges both.1;
      within = within_of n k l.edges (ascend_within n k l.edges both.1);
      edges = rw long (sym (numbers_first k l.edges f.edges_long));
      predecessors_long = rw long f.predecessors_long;
      starts_long = f.starts_long;
    }

-- there is room for edges that can be indexed
pub indexable_fits : (n : ℕ) (es : List Edge) (l : Lists) → Indexable n es l → Fits n (length es) l
indexable_fits n es l h =
    record {
      some_node = h.some_node;
      few_nodes = h.few_nodes;
      few_edges = h.few_edges;
      edges_long = ((numbers_say es l.edges).0 h.edges).1;
      predecessors_long = h.predecessors_long;
      starts_long = h.starts_long;
    }

-- lists that begin with edges that can be indexed fit, and the edges ascend
index_of : (n : ℕ) (es : List Edge) (l : Lists) → Indexable n es l → (fits n (length es) l && ascend_below n (length es) l.edges) ≡ true
index_of n es l h =
    let own = edges_taken es l.edges h.edges in
    and_of
    (fits_of n (length es) l (indexable_fits n es l h))
    (ascend_of n (length es) l.edges (rw own h.ascending) (within_at n es l.edges h.within own))

-- lists that hold edges can be indexed
pub held_indexable : (n : ℕ) (es : List Edge) (l : Lists) → Held n es l → Indexable n es l
held_indexable n es l h =
    record {
      some_node = h.some_node;
      few_nodes = h.few_nodes;
      few_edges = h.few_edges;
      ascending = h.ascending;
      within = h.within;
      edges = h.edges;
      predecessors_long = take_long (length es) l.predecessors (arrivals es n) (length_index n es h.within) h.predecessors;
      starts_long = take_long (n + 1) l.starts (starts_of es n) (length_starts es n) h.starts;
    }

-- lists that pass the test hold their edges
pub held_at : (n k : ℕ) (l : Lists) → is_held n k l ≡ true → Held n (edges_of k l) l
unfolding is_held is_fresh
held_at n k l h =
    let es = edges_of k l in
    let all = (and-eq-true_iff (fits n k l && ascend_below n k l.edges) (is_fresh n k l)).0 h in
    let f = index_at n k l all.0 in
    let fresh = (and-eq-true_iff (begins k l.predecessors (arrivals es n)) (begins (n + 1) l.starts (starts_of es n))).0 all.1 in
    let long = length_edges_in k l.edges in
    let begun : begins (length es) l.predecessors (arrivals es n) ≡ true = rw long fresh.0 in
    record {
      some_node = f.some_node;
      few_nodes = f.few_nodes;
      few_edges = f.few_edges;
      ascending = f.ascending;
      within = f.within;
      edges = f.edges;
      predecessors =
          begins_take (length es) l.predecessors (arrivals es n) begun f.predecessors_long (length_index n es f.within);
      starts = begins_take (n + 1) l.starts (starts_of es n) fresh.1 f.starts_long (length_starts es n);
    }

-- lists that hold edges pass the test
pub held_of : (n : ℕ) (es : List Edge) (l : Lists) → Held n es l → is_held n (length es) l ≡ true
unfolding is_held is_fresh
held_of n es l h =
    let own = edges_taken es l.edges h.edges in
    and_of (index_of n es l (held_indexable n es l h))
    (rw own
    (and_of (begins_of (length es) l.predecessors (arrivals es n) h.predecessors)
    (begins_of (n + 1) l.starts (starts_of es n) h.starts)))

-- the test says that the lists hold edges
pub held_says : HeldSays
held_says n k l = (
  λ h. (edges_of k l, length_edges_in k l.edges, held_at n k l h),
  λ r. subst (λ (m : ℕ). is_held n m l ≡ true) r.1 (held_of n r.0 l r.2),
)

-- ---- what the calls accept

-- a call that tests for the edges of the list decides for all edges
decides
    : (k : ℕ) (P : List Edge → Type 0) (l : Lists) (named : List Edge → Edited) (t : ℕ → Bool)
    → (t k ≡ true → P (edges_of k l))
    → ((es : List Edge) → P es → (edges_of (length es) l ≡ es) × (t (length es) ≡ true))
    → Decides k P l named (cond (t k) (named (edges_of k l)) (refused l))
decides k P l named t at of =
    let own : (es : List Edge) → length es ≡ k → P es → (edges_of k l ≡ es) × (t k ≡ true) =
    λ es q p. subst (λ (m : ℕ). (edges_of m l ≡ es) × (t m ≡ true)) q (of es p) in
    record {
      either =
          ⊎_elim
          (λ (h : t k ≡ true). inl (edges_of k l, length_edges_in k l.edges, at h))
          (λ (h : t k ≡ false). inr (λ es q p. true≢false (sym (own es q p).1 ∙ h)))
          (passes_or_fails (t k));
      accepts =
          λ es q p.
          ap (λ (b : Bool). cond b (named (edges_of k l)) (refused l)) (own es q p).1 ∙ ap named (own es q p).0;
      refuses =
          λ none.
          ap (λ (b : Bool). cond b (named (edges_of k l)) (refused l))
          (fails_of (t k) (λ h. none (edges_of k l) (length_edges_in k l.edges) (at h)));
    }

-- what holds of the refusal, and of what is named for edges that have P, holds of what such a call answers and leaves
pub decided
    : (k : ℕ) (P : List Edge → Type 0) (l : Lists) (named : List Edge → Edited) (e : Edited) → Decides k P l named e
    → (K : Edited → Type 0) → K (refused l) → ((es : List Edge) → length es ≡ k → P es → K (named es)) → K e
decided k P l named e d K old new =
    ⊎_elim
    (λ (h : (es : List Edge) × (length es ≡ k) × P es). subst K (sym (d.accepts h.0 h.1 h.2)) (new h.0 h.1 h.2))
    (λ (h : (es : List Edge) → length es ≡ k → P es → ⊥). subst K (sym (d.refuses h)) old)
    d.either

-- an edge that passes the tests of an addition may be added
pub add_at : (n k a b : ℕ) (l : Lists) → (is_held n k l && may_add n k a b l) ≡ true → Addable n a b (edges_of k l) l
unfolding may_add
add_at n k a b l h =
    let e = leb (2 * k + 2) (length l.edges) in
    let p = leb (k + 1) (length l.predecessors) in
    let both = (and-eq-true_iff (is_held n k l) (may_add n k a b l)).0 h in
    let h5 = (and-eq-true_iff (ltb a n && ltb b n && ltb k 2048 && e && p) (not (holds (edges_of k l) a b))).0 both.1 in
    let h4 = (and-eq-true_iff (ltb a n && ltb b n && ltb k 2048 && e) p).0 h5.0 in
    let h3 = (and-eq-true_iff (ltb a n && ltb b n && ltb k 2048) e).0 h4.0 in
    let h2 = (and-eq-true_iff (ltb a n && ltb b n) (ltb k 2048)).0 h3.0 in
    let h1 = (and-eq-true_iff (ltb a n) (ltb b n)).0 h2.0 in
    let long = length_edges_in k l.edges in
    record {
      held = held_at n k l both.0;
      from_node = ltb-true a n h1.0;
      to_node = ltb-true b n h1.1;
      room = rw long (ltb-true k 2048 h2.1);
      edges_long = rw long (leb-true (2 * k + 2) (length l.edges) h3.1);
      predecessors_long = rw long (leb-true (k + 1) (length l.predecessors) h4.1);
      absent = not-true (holds (edges_of k l) a b) h5.1;
    }

-- one that may be added passes them
add_of
    : (n a b : ℕ) (es : List Edge) (l : Lists) → Addable n a b es l → (is_held n (length es) l && may_add n (length es) a b l) ≡ true
unfolding may_add
add_of n a b es l h =
    let own = edges_taken es l.edges h.held.edges in
    and_of (held_of n es l h.held)
    (and_of
    (and_of
    (and_of
    (and_of (and_of (lt-ltb a n h.from_node) (lt-ltb b n h.to_node)) (lt-ltb (length es) 2048 h.room))
    (le-leb (2 * length es + 2) (length l.edges) h.edges_long))
    (le-leb (length es + 1) (length l.predecessors) h.predecessors_long))
    (rw own (ap not h.absent)))

-- an edge that passes the tests of a removal may be dropped
pub drop_at : (n k a b : ℕ) (l : Lists) → (is_held n k l && may_drop n k a b l) ≡ true → Droppable n a b (edges_of k l) l
unfolding may_drop
drop_at n k a b l h =
    let both = (and-eq-true_iff (is_held n k l) (may_drop n k a b l)).0 h in
    record {
      held = held_at n k l both.0;
      present = ((and-eq-true_iff (ltb a n && ltb b n) (holds (edges_of k l) a b)).0 both.1).1;
    }

-- one that may be dropped passes them
drop_of
    : (n a b : ℕ) (es : List Edge) (l : Lists) → Droppable n a b es l → (is_held n (length es) l && may_drop n (length es) a b l) ≡ true
unfolding may_drop
drop_of n a b es l h =
    let own = edges_taken es l.edges h.held.edges in
    let ends = h.held.within a b h.present in
    and_of (held_of n es l h.held) (and_of (and_of (lt-ltb a n ends.0) (lt-ltb b n ends.1)) (rw own h.present))

-- the calls accept what is said
pub edits_say : EditsSay
unfolding added dropped indexed
edits_say =
    record {
      add =
          λ n k a b l.
          decides k (λ es. Addable n a b es l) l (λ es. counted n k (with_edge (edge a b) es) l)
          (λ m. is_held n m l && may_add n m a b l) (add_at n k a b l)
          (λ es h. (edges_taken es l.edges h.held.edges, add_of n a b es l h));
      drop =
          λ n k a b l.
          decides k (λ es. Droppable n a b es l) l (λ es. counted n k (without_edge (edge a b) es) l)
          (λ m. is_held n m l && may_drop n m a b l) (drop_at n k a b l)
          (λ es h. (edges_taken es l.edges h.held.edges, drop_of n a b es l h));
      index =
          λ n k l.
          decides k (λ es. Indexable n es l) l (λ es. counted n k es l)
          (λ m. fits n m l && ascend_below n m l.edges) (index_at n k l)
          (λ es h. (edges_taken es l.edges h.edges, index_of n es l h));
    }
