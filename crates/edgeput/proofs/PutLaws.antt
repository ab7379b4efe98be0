-- What the moves of a put and of a take ask of the lists, and what they leave.
-- Assumes nothing.
use mathlib.Core.Path.{◌≡◌, sym, ap, ◌∙◌}
use mathlib.Core.List.{List, [], ◌∷◌}
use Prim.Native.Nat.{ℕ, ◌+◌, ◌*◌, ◌≤◌, ◌<◌}
use native.Mathlib.Omega.{arith}
use lib.Dec.{ltb}
use lib.ListN.{length, get_or}
use Rattle.job.specs.Job.{edge}
use Rattle.arrivals.specs.Arrivals.{edges_of, with_edge, without_edge, Lists, lists, relisted}
use Rattle.arrivals.specs.Shifts.{opened, closed, raised, lowered, Downward, Cut}
use Rattle.arrivals.proofs.FitsLaws.{Fits, held_parts}
use Rattle.arrivals.proofs.EditLaws.{from_place, number_downward, number_found, starts_rise, place_in, start_small, added_edges, added_predecessors, added_starts, dropped_edges, dropped_predecessors, dropped_starts, place_of_one, edge_place_in, some_start}
use Rattle.edgeput.specs.Ready.{AtPlace, PutReady, TakeReady}

-- the search for the from's place: where it begins and ends, and what it asks and finds
module _ {n k p a b : ℕ} {l : Lists} (w : AtPlace n k p a b l) where
  pub fit : Fits n k l
  fit = (held_parts n k l w.held).fit

  pub node_in : b < length l.starts
  node_in = omega (arith, w.to_node, fit.starts_long)

  pub next_in : b + 1 < length l.starts
  next_in = omega (arith, w.to_node, fit.starts_long)

  pub last_in : n < length l.starts
  last_in = omega (arith, fit.starts_long)

  pub searchable
      : (get_or l.starts b 0 ≤ get_or l.starts (b + 1) 0) × (get_or l.starts (b + 1) 0 ≤ length l.predecessors)
      × Downward (λ i. ltb (get_or l.predecessors i 0) a) (get_or l.starts b 0) (get_or l.starts (b + 1) 0)
  searchable =
      let rise = starts_rise n k a b p l w.held w.to_node w.cut in
      (rise.0, rise.1, number_downward n k a b p l w.held w.to_node w.cut)

  pub found
      : (r : ℕ) → Cut (λ i. ltb (get_or l.predecessors i 0) a) (get_or l.starts b 0) (get_or l.starts (b + 1) 0) r
      → r ≡ from_place n k a b p l w.held w.to_node w.cut
  found = number_found n k a b p l w.held w.to_node w.cut

  pub starts_small : (i : ℕ) → i ≤ n → get_or l.starts i 0 < 65535
  starts_small i m = omega (arith, start_small n k a b p l w.held w.to_node w.cut i m, fit.few_edges)

-- what putting in asks of the place, and leaves
module _ {n k p a b : ℕ} {l : Lists} (w : PutReady n k p a b l) (r : ℕ)
    (c : Cut (λ i. ltb (get_or l.predecessors i 0) a) (get_or l.starts b 0) (get_or l.starts (b + 1) 0) r) where
  pub put_place : r ≤ k
  put_place =
      omega (arith, found w.place r c, place_in n k a b p l w.place.held w.place.to_node w.place.cut)

  pub put_lists
      : (es ps ss : List ℕ) → es ≡ opened (2 * p) (2 * k) (a ∷ b ∷ []) l.edges → ps ≡ opened r k (a ∷ []) l.predecessors
      → ss ≡ raised b n l.starts → lists es ps ss ≡ relisted n k (with_edge (edge a b) (edges_of k l)) l
  unfolding relisted
  put_lists es ps ss e₁ e₂ e₃ =
      let v = w.place in
      let q₁ = e₁ ∙ sym (added_edges n k a b p l v.held v.to_node v.cut w.absent) in
      let q₂ =
      e₂ ∙ ap (λ (i : ℕ). opened i k (a ∷ []) l.predecessors) (found v r c)
      ∙ sym (added_predecessors n k a b p l v.held v.to_node v.cut w.absent) in
      let q₃ = e₃ ∙ sym (added_starts n k a b p l v.held v.to_node v.cut w.absent) in
      cc (q₁, q₂, q₃)

-- what taking out asks of the place, and leaves
module _ {n k p a b : ℕ} {l : Lists} (w : TakeReady n k p a b l) (r : ℕ)
    (c : Cut (λ i. ltb (get_or l.predecessors i 0) a) (get_or l.starts b 0) (get_or l.starts (b + 1) 0) r) where
  pub take_place : r < k
  take_place =
      omega (arith, found w.place r c, place_of_one n k a b p l w.place.held w.place.to_node w.place.cut w.present)

  pub take_lists
      : (es ps ss : List ℕ) → es ≡ closed (2 * p) (2 * k) 2 l.edges → ps ≡ closed r k 1 l.predecessors
      → ss ≡ lowered b n l.starts → lists es ps ss ≡ relisted n k (without_edge (edge a b) (edges_of k l)) l
  unfolding relisted
  take_lists es ps ss e₁ e₂ e₃ =
      let v = w.place in
      let q₁ = e₁ ∙ sym (dropped_edges n k a b p l v.held v.to_node v.cut w.present) in
      let q₂ =
      e₂ ∙ ap (λ (i : ℕ). closed i k 1 l.predecessors) (found v r c)
      ∙ sym (dropped_predecessors n k a b p l v.held v.to_node v.cut w.present) in
      let q₃ = e₃ ∙ sym (dropped_starts n k a b p l v.held v.to_node v.cut w.present) in
      cc (q₁, q₂, q₃)

pub take_edge_place : {n k p a b : ℕ} {l : Lists} → TakeReady n k p a b l → p < k
take_edge_place {n} {k} {p} {a} {b} {l} w =
    edge_place_in n k a b p l w.place.held w.place.to_node w.place.cut w.present

pub starts_some : {n k p a b : ℕ} {l : Lists} → TakeReady n k p a b l → (i : ℕ) → b < i → i ≤ n → 0 < get_or l.starts i 0
starts_some {n} {k} {p} {a} {b} {l} w = some_start n k a b p l w.place.held w.place.to_node w.place.cut w.present
