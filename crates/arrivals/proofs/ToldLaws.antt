-- Every answer of the calls on edges is 22, or a count of at most 2,048.
-- Assumes nothing.
use Rattle.std.specs.Prelude.{Result}
use mathlib.Core.Path.{◌≡◌, refl}
use mathlib.Core.Logic.{inl, inr}
use mathlib.Core.Bool.{false}
use mathlib.Core.List.{List}
use Prim.Native.Nat.{ℕ, ◌+◌, ◌-◌, ◌≤◌}
use native.Mathlib.Omega.{arith}
use lib.Dec.{ltb}
use lib.ListN.{length}
use borrow.Author.Tests.{le-ltb}
use Rattle.callnumber.specs.CallNumber.{accepted_from}
use Rattle.job.specs.Job.{Edge, edge}
use Rattle.arrivals.specs.Arrivals.{with_edge, without_edge, Lists, counted, added, dropped, indexed, edge_number}
use Rattle.arrivals.specs.ArrivalsSay.{Addable, Droppable, Indexable, Told, edge_seen, AnswersSay}
use Rattle.arrivals.proofs.WithLaws.{with_counts, without_counts}
use Rattle.arrivals.proofs.HeldLaws.{edits_say, decided}

-- edges that are few are told
counted_told : (n k : ℕ) (es : List Edge) (l : Lists) → length es ≤ 2048 → Told (counted n k es l).answer
unfolding counted
counted_told n k es l h = inr (length es, h, refl)

-- told answers are read back from their numbers
told_by_number : (r : Result ℕ ℕ) → Told r → edge_seen (edge_number r) ≡ r
told_by_number r (inl e) = rw e refl
told_by_number r (inr (m, few, e)) =
    let past : ltb (accepted_from + m) accepted_from ≡ false = le-ltb (accepted_from + m) accepted_from (omega arith) in
    let less : accepted_from + m - accepted_from ≡ m = omega arith in
    rw e (simp (past, less))

pub answers_say : AnswersSay
answers_say =
    record {
      by_number = told_by_number;
      add =
          λ n k a b l.
          decided k (λ es. Addable n a b es l) l (λ es. counted n k (with_edge (edge a b) es) l) (added n k a b l) (edits_say.add n k a b l)
          (λ e. Told e.answer) (inl refl)
          (λ es q h. counted_told n k (with_edge (edge a b) es) l (omega (arith, with_counts (edge a b) es, h.room)));
      drop =
          λ n k a b l.
          decided k (λ es. Droppable n a b es l) l (λ es. counted n k (without_edge (edge a b) es) l) (dropped n k a b l) (edits_say.drop n k a b l)
          (λ e. Told e.answer) (inl refl)
          (λ es q h.
          counted_told n k (without_edge (edge a b) es) l
          (omega (arith, without_counts (edge a b) es h.held.ascending h.present, h.held.few_edges)));
      index =
          λ n k l.
          decided k (λ es. Indexable n es l) l (λ es. counted n k es l) (indexed n k l) (edits_say.index n k l) (λ e. Told e.answer) (inl refl)
          (λ es q h. counted_told n k es l h.few_edges);
    }
