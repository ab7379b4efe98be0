-- What an accepted call leaves: lists that hold the edges named, whose index is what a fresh build gives; the entries of other nodes
-- name what they named; and a call undone leaves the lists as they were. Why: the lists begin with the edges and the index named.
-- Assumes nothing.
use Rattle.std.specs.Prelude.{Ok}
use mathlib.Core.Path.{◌≡◌, refl, sym, ap, subst, ◌∙◌}
use mathlib.Core.Logic.{⊎_elim}
use mathlib.Core.Bool.{true, not, and-eq-true_iff}
use mathlib.Core.List.{List}
use Prim.Native.Nat.{ℕ, ◌+◌, ◌*◌, ◌-◌, ◌≤◌, ◌<◌}
use native.Mathlib.Nat.{le_refl}
use native.Mathlib.Omega.{arith}
use lib.ListN.{length, get_or, take, drop}
use Rattle.laws.proofs.Tests.{or_passes, or_left}
use Rattle.job.specs.Job.{Edge, edge, holds}
use Rattle.jobfile.specs.Spellable.{Ascending}
use Rattle.arrivals.specs.Arrivals.{numbers_of, predecessors_of, arrivals, starts_of, with_edge, without_edge, Lists, lists, relisted, Edited, counted, added, dropped, indexed}
use Rattle.arrivals.specs.ArrivalsSay.{entry_in, Within, Held, Addable, Droppable, Indexable, zeroed, KeepsIndex}
use Rattle.arrivals.proofs.ListLaws.{take_get_d, take_drop_take}
use Rattle.arrivals.proofs.ChangedLaws.{changed_back, length_becomes, becomes_take, becomes_same, becomes_again, becomes_back}
use Rattle.arrivals.proofs.WithLaws.{is_edge, is_edge_same, is_edge_true, with_ascends, with_holds, with_counts, without_ascends, without_holds, without_counts, with_without, without_gone, without_with, with_other, without_other}
use Rattle.arrivals.proofs.PlacedLaws.{entry_before}
use Rattle.arrivals.proofs.FitsLaws.{Fits, get_d_starts}
use Rattle.arrivals.proofs.SplitLaws.{length_numbers}
use Rattle.arrivals.proofs.IndexLaws.{length_starts, starts_apart, index_says}
use Rattle.arrivals.proofs.NumbersLaws.{length_index}
use Rattle.arrivals.proofs.HeldLaws.{held_indexable, indexable_fits, edits_say}

-- ---- the lists with edges in their place

-- they hold them where there is room
pub relisted_holds
    : (n k : ℕ) (es : List Edge) (l : Lists) → Fits n (length es) l → Ascending es → Within n es → Held n es (relisted n k es l)
unfolding relisted
relisted_holds n k es l f up ends =
    record {
      some_node = f.some_node;
      few_nodes = f.few_nodes;
      few_edges = f.few_edges;
      ascending = up;
      within = ends;
      edges = becomes_take (2 * k) (numbers_of es) l.edges (2 * length es) (length_numbers es) f.edges_long;
      predecessors =
          becomes_take k (arrivals es n) l.predecessors (length es) (length_index n es ends) f.predecessors_long;
      starts = becomes_take (n + 1) (starts_of es n) l.starts (n + 1) (length_starts es n) f.starts_long;
    }

-- lists of three equal parts
lists_ext : {e e' p p' s s' : List ℕ} → e ≡ e' → p ≡ p' → s ≡ s' → lists e p s ≡ lists e' p' s'
lists_ext he hp hs = cc (he, hp, hs)

-- lists that hold the edges are unchanged
pub relisted_same : (n : ℕ) (es : List Edge) (l : Lists) → Held n es l → relisted n (length es) es l ≡ l
unfolding relisted
relisted_same n es l h =
    lists_ext (becomes_same (2 * length es) (numbers_of es) l.edges (2 * length es) (length_numbers es) h.edges (le_refl _))
    (becomes_same (length es) (arrivals es n) l.predecessors (length es) (length_index n es h.within) h.predecessors (le_refl _))
    (becomes_same (n + 1) (starts_of es n) l.starts (n + 1) (length_starts es n) h.starts (le_refl _))

-- they have the lengths that they had
pub relisted_long
    : (n k : ℕ) (es : List Edge) (l : Lists)
    → (length (relisted n k es l).edges ≡ length l.edges) × (length (relisted n k es l).predecessors ≡ length l.predecessors)
unfolding relisted
relisted_long n k es l =
    (length_becomes (2 * k) (numbers_of es) l.edges, length_becomes k (arrivals es n) l.predecessors)

module _ (n : ℕ) (es ds : List Edge) (l : Lists) (h : Held n es l) (ends : Within n ds) where
  -- the starts are as they were after other edges and those again
  starts_again : changed_back (n + 1) (starts_of es n) (n + 1) (starts_of ds n) l.starts ≡ l.starts
  starts_again =
      becomes_again (n + 1) (starts_of es n) (n + 1) (starts_of ds n) l.starts (length_starts es n) (length_starts ds n) h.starts
      (le_refl (n + 1))

  -- after fewer edges and those again the lists are as they were
  pub relisted_again : length ds ≤ length es → relisted n (length ds) es (relisted n (length es) ds l) ≡ l
  unfolding relisted
  relisted_again fewer =
      lists_ext
      (becomes_again (2 * length es) (numbers_of es) (2 * length ds) (numbers_of ds) l.edges (length_numbers es) (length_numbers ds)
      h.edges (omega arith))
      (becomes_again (length es) (arrivals es n) (length ds) (arrivals ds n) l.predecessors (length_index n es h.within)
      (length_index n ds ends) h.predecessors fewer)
      starts_again

  -- after one edge more and those again there are zeros in the places that it took
  pub relisted_back
      : length ds ≡ length es + 1
      → relisted n (length ds) es (relisted n (length es) ds l)
      ≡ lists (zeroed (2 * length es) 2 l.edges) (zeroed (length es) 1 l.predecessors) l.starts
  unfolding relisted
  relisted_back more =
      lists_ext
      (becomes_back (2 * length es) (numbers_of es) (2 * length ds) (numbers_of ds) l.edges (length_numbers es) (length_numbers ds)
      h.edges 2 (omega arith))
      (becomes_back (length es) (arrivals es n) (length ds) (arrivals ds n) l.predecessors (length_index n es h.within)
      (length_index n ds ends) h.predecessors 1 more)
      starts_again

-- ---- what is held after a call

-- the ends of edges with one more between nodes
pub with_within : (n : ℕ) (e : Edge) (es : List Edge) → e.from < n → e.to < n → Within n es → Within n (with_edge e es)
with_within n e es from to ends c d h =
    ⊎_elim
    (λ (t : is_edge e c d ≡ true). subst (λ (f : Edge). (f.from < n) × (f.to < n)) (is_edge_true e c d t) (from, to))
    (λ (t : holds es c d ≡ true). ends c d t)
    (or_passes (is_edge e c d) (holds es c d) (sym (with_holds e es c d) ∙ h))

-- of edges with one less
pub without_within : (n : ℕ) (e : Edge) (es : List Edge) → Within n es → Within n (without_edge e es)
without_within n e es ends c d h =
    ends c d ((and-eq-true_iff (not (is_edge e c d)) (holds es c d)).0 (sym (without_holds e es c d) ∙ h)).1

-- what a call leaves that counts edges
pub counted_left : (n k : ℕ) (es : List Edge) (l : Lists) → (counted n k es l).left ≡ relisted n k es l
unfolding counted
counted_left n k es l = refl

-- what it answers and leaves where the lists become others
counted_is : (n k : ℕ) (es : List Edge) (l r : Lists) → relisted n k es l ≡ r → counted n k es l ≡ record { answer = Ok (length es); left = r }
unfolding counted
counted_is n k es l r e = ap (λ (x : Lists). record { answer = Ok (length es); left = x }) e

module _ (n a b : ℕ) (es : List Edge) (l : Lists) (h : Addable n a b es l) where
  -- what an addition leaves
  added_left : (added n (length es) a b l).left ≡ relisted n (length es) (with_edge (edge a b) es) l
  added_left =
      ap (λ (e : Edited). e.left) ((edits_say.add n (length es) a b l).accepts es refl h)
      ∙ counted_left n (length es) (with_edge (edge a b) es) l

  -- the ends of the edges then
  pub added_within : Within n (with_edge (edge a b) es)
  added_within = with_within n (edge a b) es h.from_node h.to_node h.held.within

  -- they are held
  pub relisted_added : Held n (with_edge (edge a b) es) (relisted n (length es) (with_edge (edge a b) es) l)
  relisted_added =
      let f = indexable_fits n es l (held_indexable n es l h.held) in
      let more = with_counts (edge a b) es in
      relisted_holds n (length es) (with_edge (edge a b) es) l
      (record {
        some_node = f.some_node;
        few_nodes = f.few_nodes;
        few_edges = omega (arith, h.room);
        edges_long = omega (arith, h.edges_long);
        predecessors_long = omega (arith, h.predecessors_long);
        starts_long = f.starts_long;
      })
      (with_ascends (edge a b) es h.held.ascending h.absent) added_within

module _ (n a b : ℕ) (es : List Edge) (l : Lists) (h : Droppable n a b es l) where
  -- what a removal leaves
  pub dropped_left : (dropped n (length es) a b l).left ≡ relisted n (length es) (without_edge (edge a b) es) l
  dropped_left =
      ap (λ (e : Edited). e.left) ((edits_say.drop n (length es) a b l).accepts es refl h)
      ∙ counted_left n (length es) (without_edge (edge a b) es) l

  -- how many edges there are then
  pub dropped_counts : length (without_edge (edge a b) es) + 1 ≡ length es
  dropped_counts = without_counts (edge a b) es h.held.ascending h.present

  -- their ends
  pub dropped_within : Within n (without_edge (edge a b) es)
  dropped_within = without_within n (edge a b) es h.held.within

  -- they are held
  pub relisted_dropped : Held n (without_edge (edge a b) es) (relisted n (length es) (without_edge (edge a b) es) l)
  relisted_dropped =
      let f = indexable_fits n es l (held_indexable n es l h.held) in
      let fewer = dropped_counts in
      relisted_holds n (length es) (without_edge (edge a b) es) l
      (record {
        some_node = f.some_node;
        few_nodes = f.few_nodes;
        few_edges = omega (arith, f.few_edges);
        edges_long = omega (arith, f.edges_long);
        predecessors_long = omega (arith, f.predecessors_long);
        starts_long = f.starts_long;
      })
      (without_ascends (edge a b) es h.held.ascending) dropped_within

-- what a fresh build leaves
pub index_left : (n : ℕ) (es : List Edge) (l : Lists) → Indexable n es l → (indexed n (length es) l).left ≡ relisted n (length es) es l
index_left n es l h =
    ap (λ (e : Edited). e.left) ((edits_say.index n (length es) l).accepts es refl h) ∙ counted_left n (length es) es l

-- the edges are held
pub relisted_indexed : (n : ℕ) (es : List Edge) (l : Lists) → Indexable n es l → Held n es (relisted n (length es) es l)
relisted_indexed n es l h = relisted_holds n (length es) es l (indexable_fits n es l h) h.ascending h.within

-- ---- the entries

-- the entry of a node names its predecessors
pub held_entry : (n : ℕ) (es : List Edge) (l : Lists) → Held n es l → (m : ℕ) → m < n → entry_in l m ≡ predecessors_of es m
held_entry n es l h m b =
    let at : get_or l.starts m 0 ≡ get_or (starts_of es n) m 0 =
    take_get_d (n + 1) l.starts (starts_of es n) m 0 h.starts (omega arith) in
    let next : get_or l.starts (m + 1) 0 ≡ get_or (starts_of es n) (m + 1) 0 =
    take_get_d (n + 1) l.starts (starts_of es n) (m + 1) 0 h.starts (omega arith) in
    let first = get_or (starts_of es n) m 0 in
    let wide = get_or (starts_of es n) (m + 1) 0 - get_or (starts_of es n) m 0 in
    let long : first + wide ≤ length es =
    omega (arith, get_d_starts es n m (omega arith), starts_apart es n m b, entry_before es m n b, length_index n es h.within) in
    rw (at, next)
    (sym (take_drop_take wide first (length es) l.predecessors long)
    ∙ ap (λ (r : List ℕ). take wide (drop first r)) h.predecessors ∙ index_says.stands es n m b)

-- edges that give a node the same predecessors give it the same entry
same_entry
    : (n : ℕ) (ds es : List Edge) (k l : Lists) → Held n ds k → Held n es l → (m : ℕ) → m < n
    → predecessors_of ds m ≡ predecessors_of es m → entry_in k m ≡ entry_in l m
same_entry n ds es k l h i m b e = held_entry n ds k h m b ∙ e ∙ sym (held_entry n es l i m b)

-- ---- a call undone

-- an addition undone
add_drop
    : (n a b : ℕ) (es : List Edge) (l : Lists) → Addable n a b es l
    → dropped n (length es + 1) a b (added n (length es) a b l).left
    ≡ record {
      answer = Ok (length es);
      left = lists (zeroed (2 * length es) 2 l.edges) (zeroed (length es) 1 l.predecessors) l.starts;
    }
add_drop n a b es l h =
    let ds = with_edge (edge a b) es in
    let r = relisted n (length es) ds l in
    let more : length ds ≡ length es + 1 = with_counts (edge a b) es in
    let there : holds ds a b ≡ true =
    with_holds (edge a b) es a b ∙ or_left (is_edge (edge a b) a b) (holds es a b) (is_edge_same (edge a b)) in
    ap (dropped n (length es + 1) a b) (added_left n a b es l h)
    ∙ (edits_say.drop n (length es + 1) a b r).accepts ds more (record { held = relisted_added n a b es l h; present = there })
    ∙ ap (λ (x : List Edge). counted n (length es + 1) x r) (with_without (edge a b) es h.held.ascending h.absent)
    ∙ ap (λ (k : ℕ). counted n k es r) (sym more)
    ∙ counted_is n (length ds) es r
    (lists (zeroed (2 * length es) 2 l.edges) (zeroed (length es) 1 l.predecessors) l.starts)
    (relisted_back n es ds l h.held (added_within n a b es l h) more)

-- a removal undone
drop_add
    : (n a b : ℕ) (es : List Edge) (l : Lists) → Droppable n a b es l
    → added n (length es - 1) a b (dropped n (length es) a b l).left ≡ record { answer = Ok (length es); left = l }
drop_add n a b es l h =
    let ds = without_edge (edge a b) es in
    let r = relisted n (length es) ds l in
    let more = dropped_counts n a b es l h in
    let fewer : length ds ≡ length es - 1 = omega arith in
    let f = indexable_fits n es l (held_indexable n es l h.held) in
    let long = relisted_long n (length es) ds l in
    let ends = h.held.within a b h.present in
    let may : Addable n a b ds r =
    record {
      held = relisted_dropped n a b es l h;
      from_node = ends.0;
      to_node = ends.1;
      room = omega (arith, f.few_edges);
      edges_long = omega (arith, long.0, f.edges_long);
      predecessors_long = omega (arith, long.1, f.predecessors_long);
      absent = without_gone (edge a b) es;
    } in
    ap (added n (length es - 1) a b) (dropped_left n a b es l h)
    ∙ (edits_say.add n (length es - 1) a b r).accepts ds fewer may
    ∙ ap (λ (x : List Edge). counted n (length es - 1) x r) (without_with (edge a b) es h.held.ascending h.present)
    ∙ ap (λ (k : ℕ). counted n k es r) (sym fewer)
    ∙ counted_is n (length ds) es r l (relisted_again n es ds l h.held (dropped_within n a b es l h) (omega arith))

-- the calls keep the index
pub keeps_index : KeepsIndex
keeps_index =
    record {
      add_Holds = λ n a b es l h. rw (added_left n a b es l h) (relisted_added n a b es l h);
      drop_holds = λ n a b es l h. rw (dropped_left n a b es l h) (relisted_dropped n a b es l h);
      index_holds = λ n es l h. rw (index_left n es l h) (relisted_indexed n es l h);
      fresh =
          λ n es l h.
          (edits_say.index n (length es) l).accepts es refl (held_indexable n es l h)
          ∙ counted_is n (length es) es l l (relisted_same n es l h);
      add_untouched =
          λ n a b es l h m c other.
          rw (added_left n a b es l h)
          (same_entry n (with_edge (edge a b) es) es (relisted n (length es) (with_edge (edge a b) es) l) l
          (relisted_added n a b es l h) h.held m c (with_other (edge a b) es m other));
      drop_untouched =
          λ n a b es l h m c other.
          rw (dropped_left n a b es l h)
          (same_entry n (without_edge (edge a b) es) es (relisted n (length es) (without_edge (edge a b) es) l) l
          (relisted_dropped n a b es l h) h.held m c (without_other (edge a b) es m other));
      add_drop = add_drop;
      drop_add = drop_add;
    }
