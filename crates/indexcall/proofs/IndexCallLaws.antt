-- What the call that makes the index afresh answers and leaves, test by test.
-- Assumes nothing.
use Rattle.std.specs.Prelude.{Ok}
use mathlib.Core.Path.{◌≡◌, sym, ap, ◌∙◌}
use mathlib.Core.Bool.{true, false}
use mathlib.Core.List.{List}
use Prim.Native.Nat.{ℕ, ◌+◌, ◌*◌}
use native.Mathlib.Nat.{le_refl}
use Rattle.arrivals.specs.Arrivals.{numbers_of, arrivals, starts_of, ascend_below, Lists, edges_of, fits, becomes, relisted, edited, counted, refused, indexed}
use Rattle.arrivals.proofs.PlacedLaws.{length_edges_in}
use Rattle.arrivals.proofs.NumbersLaws.{numbers_first}
use Rattle.arrivals.proofs.SplitLaws.{length_numbers}
use Rattle.arrivals.proofs.FitsLaws.{fits_true}
use Rattle.arrivals.proofs.ChangedLaws.{becomes_same}

-- lists that do not fit are refused
pub index_unfit : (n k : ℕ) (l : Lists) → fits n k l ≡ false → refused l ≡ indexed n k l
unfolding indexed
index_unfit n k l h = simp h

-- and edges that do not ascend
pub index_unordered : (n k : ℕ) (l : Lists) → fits n k l ≡ true → ascend_below n k l.edges ≡ false → refused l ≡ indexed n k l
unfolding indexed
index_unordered n k l h o = simp (h, o)

-- an index that is made answers the count, and leaves the edges
pub index_made
    : (n k : ℕ) (l : Lists) (ps ss : List ℕ) → fits n k l ≡ true → ascend_below n k l.edges ≡ true
    → ps ≡ becomes k (arrivals (edges_of k l) n) l.predecessors → ss ≡ becomes (n + 1) (starts_of (edges_of k l) n) l.starts
    → edited (Ok k) l.edges ps ss ≡ indexed n k l
unfolding indexed counted relisted
index_made n k l ps ss h o p s =
    let same : becomes (2 * k) (numbers_of (edges_of k l)) l.edges ≡ l.edges =
    becomes_same (2 * k) (numbers_of (edges_of k l)) l.edges (2 * k)
    (length_numbers (edges_of k l) ∙ ap (λ (m : ℕ). 2 * m) (length_edges_in k l.edges))
    (sym (numbers_first k l.edges (fits_true n k l h).edges_long))
    (le_refl (2 * k)) in
    simp (h, o, length_edges_in k l.edges, same, p, s)
