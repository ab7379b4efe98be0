-- Any list of calls keeps a right index right.
-- Why: an accepted call counts the edges that it makes and leaves lists that hold them; a refused one leaves all as it was.
-- Assumes nothing.
use mathlib.Core.Path.{◌≡◌, sym, ap, subst, ◌∙◌}
use mathlib.Core.List.{List, [], ◌∷◌}
use Prim.Native.Nat.{ℕ, ◌*◌}
use lib.ListN.{length, take}
use Rattle.job.specs.Job.{Edge, edge}
use Rattle.arrivals.specs.Arrivals.{edges_in, numbers_of, with_edge, without_edge, relisted, Edited, counted, refused}
use Rattle.arrivals.specs.ArrivalsSay.{Held, Addable, Droppable, Indexable, Edit, adds, drops, indexes, edit_of, edges_by, Graph, graph_after, after_edit, after_edits, Right, AnyEdits}
use Rattle.arrivals.proofs.NumbersLaws.{edges_taken}
use Rattle.arrivals.proofs.HeldLaws.{decided, edits_say}
use Rattle.arrivals.proofs.KeepLaws.{relisted_added, relisted_dropped, relisted_indexed}

-- the same number of edges at the beginning of a list are the same
same_edges
    : (ds es : List Edge) (l : List ℕ) → take (2 * length ds) l ≡ numbers_of ds → take (2 * length es) l ≡ numbers_of es → length ds ≡ length es
    → ds ≡ es
same_edges ds es l d e q = sym (edges_taken ds l d) ∙ ap (λ (k : ℕ). edges_in k l) q ∙ edges_taken es l e

module _ (n : ℕ) (g : Graph) (right : Right n g) (c : Edit) where
  -- the editor is right after what a call answers and leaves
  abbrev RightAfter : Edited → Type 0
  RightAfter e = Right n (graph_after g c e.answer e.left)

  -- after a refusal
  refused_right : RightAfter (refused g.lists)
  refused_right = record { count = right.count; held = right.held }

  -- after a call that counts the edges which it makes of those at the beginning
  counted_right
      : (es : List Edge) → length es ≡ g.count → take (2 * length es) g.lists.edges ≡ numbers_of es
      → Held n (edges_by c es) (relisted n (length es) (edges_by c es) g.lists)
      → RightAfter (counted n g.count (edges_by c es) g.lists)
  unfolding counted
  counted_right es q begun h =
      let same : es ≡ g.edges = same_edges es g.edges g.lists.edges begun right.held.edges (q ∙ sym right.count) in
      let made : edges_by c es ≡ edges_by c g.edges = ap (edges_by c) same in
      record {
        count = sym (ap length made);
        held =
            subst (λ (ds : List Edge). Held n ds (relisted n g.count (edges_by c es) g.lists)) made
            (subst (λ (k : ℕ). Held n (edges_by c es) (relisted n k (edges_by c es) g.lists)) q h);
      }

-- after each call
edit_right : (n : ℕ) (g : Graph) → Right n g → (c : Edit) → Right n (after_edit n g c)
edit_right n g right (adds a b) =
    let l = g.lists in
    let k = g.count in
    decided k (λ es. Addable n a b es l) l (λ es. counted n k (with_edge (edge a b) es) l) (edit_of n (adds a b) k l) (edits_say.add n k a b l)
    (RightAfter n g right (adds a b)) (refused_right n g right (adds a b))
    (λ es q h. counted_right n g right (adds a b) es q h.held.edges (relisted_added n a b es l h))
edit_right n g right (drops a b) =
    let l = g.lists in
    let k = g.count in
    decided k (λ es. Droppable n a b es l) l (λ es. counted n k (without_edge (edge a b) es) l) (edit_of n (drops a b) k l)
    (edits_say.drop n k a b l) (RightAfter n g right (drops a b)) (refused_right n g right (drops a b))
    (λ es q h. counted_right n g right (drops a b) es q h.held.edges (relisted_dropped n a b es l h))
edit_right n g right indexes =
    let l = g.lists in
    let k = g.count in
    decided k (λ es. Indexable n es l) l (λ es. counted n k es l) (edit_of n indexes k l) (edits_say.index n k l)
    (RightAfter n g right indexes) (refused_right n g right indexes)
    (λ es q h. counted_right n g right indexes es q h.edges (relisted_indexed n es l h))

-- after any list of calls
pub any_edits : AnyEdits
unfolding after_edits
any_edits n g [] right = right
any_edits n g (c ∷ cs) right = any_edits n (after_edit n g c) cs (edit_right n g right c)
