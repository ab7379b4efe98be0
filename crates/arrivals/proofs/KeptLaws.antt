-- Whatever a call answers, the lists keep their lengths and every place past the old and the new lists, and a removal leaves zeros in the
-- places that it frees. Why: so does each list that becomes a new one, and a refused call leaves them all.
-- Assumes nothing.
use mathlib.Core.Path.{◌≡◌, refl, sym, subst}
use mathlib.Core.List.{List}
use Prim.Native.Nat.{ℕ, ◌+◌, ◌*◌, ◌-◌, ◌≤◌}
use native.Mathlib.Nat.{le_refl}
use native.Mathlib.Omega.{arith}
use lib.ListN.{length}
use Rattle.job.specs.Job.{Edge, edge}
use Rattle.arrivals.specs.Arrivals.{numbers_of, arrivals, starts_of, with_edge, without_edge, Lists, becomes, relisted, Edited, counted, added, dropped, indexed}
use Rattle.arrivals.specs.ArrivalsSay.{Within, Addable, Droppable, Indexable, Decides, KeptFrom, KeptPast, Freed, KeepsPlaces}
use Rattle.arrivals.proofs.ChangedLaws.{length_becomes, becomes_freed, becomes_kept, becomes_same}
use Rattle.arrivals.proofs.SplitLaws.{length_numbers}
use Rattle.arrivals.proofs.IndexLaws.{length_starts}
use Rattle.arrivals.proofs.NumbersLaws.{length_index}
use Rattle.arrivals.proofs.WithLaws.{with_counts}
use Rattle.arrivals.proofs.HeldLaws.{held_indexable, indexable_fits, decided, edits_say}
use Rattle.arrivals.proofs.KeepLaws.{counted_left, added_within, dropped_left, dropped_counts, dropped_within}

-- ---- what is kept

-- a list that becomes a new one keeps what is past both
becomes_keeps : (at old : ℕ) (new l : List ℕ) → length new ≤ at → old ≤ at → KeptFrom at l (becomes old new l)
becomes_keeps at old new l b c =
    record {
      long = length_becomes old new l;
      places = λ i h in_l. becomes_kept old new l i in_l (omega arith) (omega arith);
    }

-- a list keeps all of itself
all_kept : (at : ℕ) (l : List ℕ) → KeptFrom at l l
all_kept at l = record { long = refl; places = λ i h in_l. refl }

-- so do lists
all_past : (e p s : ℕ) (l : Lists) → KeptPast e p s l l
all_past e p s l =
    record {
      edges = all_kept e l.edges;
      predecessors = all_kept p l.predecessors;
      starts = all_kept s l.starts;
    }

-- lists with other edges in their place keep what is past both
relisted_keeps
    : (n k e p : ℕ) (es : List Edge) (l : Lists) → Within n es → 2 * length es ≤ e → 2 * k ≤ e → length es ≤ p → k ≤ p
    → KeptPast e p (n + 1) l (relisted n k es l)
unfolding relisted
relisted_keeps n k e p es l ends new_e old_e new_p old_p =
    record {
      edges = becomes_keeps e (2 * k) (numbers_of es) l.edges (omega (arith, length_numbers es)) old_e;
      predecessors = becomes_keeps p k (arrivals es n) l.predecessors (omega (arith, length_index n es ends)) old_p;
      starts = becomes_keeps (n + 1) (n + 1) (starts_of es n) l.starts (omega (arith, length_starts es n)) (le_refl (n + 1));
    }

-- lists with their own edges in their place keep these too
relisted_own : (n : ℕ) (es : List Edge) (l : Lists) → Indexable n es l → KeptPast 0 (length es) (n + 1) l (relisted n (length es) es l)
unfolding relisted
relisted_own n es l h =
    let k = length es in
    let kept = relisted_keeps n k (2 * k) k es l h.within (le_refl (2 * k)) (le_refl (2 * k)) (le_refl k) (le_refl k) in
    record {
      edges =
          subst (KeptFrom 0 l.edges)
          (sym
          (becomes_same (2 * length es) (numbers_of es) l.edges (2 * length es) (length_numbers es) h.edges (le_refl (2 * length es))))
          (all_kept 0 l.edges);
      predecessors = kept.predecessors;
      starts = kept.starts;
    }

-- a call keeps what the edges that it names keep
keeps
    : (n k e p : ℕ) (P : List Edge → Type 0) (l : Lists) (of : List Edge → List Edge) (x : Edited)
    → Decides k P l (λ es. counted n k (of es) l) x
    → ((es : List Edge) → length es ≡ k → P es → KeptPast e p (n + 1) l (relisted n k (of es) l)) → KeptPast e p (n + 1) l x.left
keeps n k e p P l of x d new =
    decided k P l (λ es. counted n k (of es) l) x d (λ y. KeptPast e p (n + 1) l y.left) (all_past e p (n + 1) l)
    (λ es q h. subst (KeptPast e p (n + 1) l) (sym (counted_left n k (of es) l)) (new es q h))

-- ---- what is freed

-- a removal leaves zeros at the end of the lists that were
relisted_freed
    : (n a b : ℕ) (es : List Edge) (l : Lists) → Droppable n a b es l
    → Freed (length es) (relisted n (length es) (without_edge (edge a b) es) l)
unfolding relisted
relisted_freed n a b es l h =
    let k = length es in
    let ds = without_edge (edge a b) es in
    let f = indexable_fits n es l (held_indexable n es l h.held) in
    let fewer : length ds + 1 ≡ k = dropped_counts n a b es l h in
    let numbers = length_numbers ds in
    let index = length_index n ds (dropped_within n a b es l h) in
    record {
      from =
          becomes_freed (2 * k) (numbers_of ds) l.edges (2 * k - 2) (omega (arith, f.edges_long)) (omega arith) (omega arith);
      to =
          becomes_freed (2 * k) (numbers_of ds) l.edges (2 * k - 1) (omega (arith, f.edges_long)) (omega arith) (omega arith);
      predecessor =
          becomes_freed k (arrivals ds n) l.predecessors (k - 1) (omega (arith, f.predecessors_long)) (omega arith) (omega arith);
    }

-- ---- the calls

-- an addition
add_keeps : (n k a b : ℕ) (l : Lists) → KeptPast (2 * k + 2) (k + 1) (n + 1) l (added n k a b l).left
add_keeps n k a b l =
    keeps n k (2 * k + 2) (k + 1) (λ es. Addable n a b es l) l (with_edge (edge a b)) (added n k a b l) (edits_say.add n k a b l)
    (λ es q h.
    let ds = with_edge (edge a b) es in
    let more : length ds ≡ length es + 1 = with_counts (edge a b) es in
    relisted_keeps n k (2 * k + 2) (k + 1) ds l (added_within n a b es l h) (omega arith) (omega arith) (omega arith) (omega arith))

-- a removal
drop_keeps : (n k a b : ℕ) (l : Lists) → KeptPast (2 * k) k (n + 1) l (dropped n k a b l).left
drop_keeps n k a b l =
    keeps n k (2 * k) k (λ es. Droppable n a b es l) l (without_edge (edge a b)) (dropped n k a b l) (edits_say.drop n k a b l)
    (λ es q h.
    let ds = without_edge (edge a b) es in
    let fewer : length ds + 1 ≡ length es = dropped_counts n a b es l h in
    relisted_keeps n k (2 * k) k ds l (dropped_within n a b es l h) (omega arith) (omega arith) (omega arith) (omega arith))

-- a fresh build
index_keeps : (n k : ℕ) (l : Lists) → KeptPast 0 k (n + 1) l (indexed n k l).left
index_keeps n k l =
    keeps n k 0 k (λ es. Indexable n es l) l (λ es. es) (indexed n k l) (edits_say.index n k l)
    (λ es q h. subst (λ (m : ℕ). KeptPast 0 m (n + 1) l (relisted n m es l)) q (relisted_own n es l h))

-- the calls keep their places
pub keeps_places : KeepsPlaces
keeps_places =
    record {
      add = add_keeps;
      drop = drop_keeps;
      index = index_keeps;
      freed = λ n a b es l h. subst (Freed (length es)) (sym (dropped_left n a b es l h)) (relisted_freed n a b es l h);
    }
