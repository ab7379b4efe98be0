-- One edge more or less, and its index, by the edges before and after it.
-- Assumes nothing.
use mathlib.Core.Path.{◌≡◌, refl, sym, ap, subst, ◌∙◌}
use mathlib.Core.Logic.{◌≢◌, ⊎_elim}
use mathlib.Core.Bool.{true, false, true≢false}
use mathlib.Core.List.{List, [], ◌∷◌, ◌++◌, append_assoc}
use Prim.Native.Nat.{ℕ, zero, suc, ◌*◌, ◌≤◌, ◌<◌}
use native.Mathlib.Nat.{not-suc-le-zero}
use native.Mathlib.Omega.{arith}
use lib.ListN.{length, get_or}
use Rattle.laws.proofs.Bounded.{below_suc}
use Rattle.laws.proofs.Tests.{fails_of}
use Rattle.job.specs.Job.{Edge}
use Rattle.arrivals.specs.Arrivals.{numbers_of, is_before, predecessors_of, arrivals, with_edge, without_edge}
use Rattle.arrivals.proofs.OrderLaws.{before_irreflexive}
use Rattle.arrivals.proofs.PlacedLaws.{predecessors_append, predecessors_cons_same, predecessors_cons_other}
use Rattle.arrivals.proofs.WithLaws.{is_edge, is_edge_same, is_edge_true}

-- ---- the edges

-- an edge that no edge of the first part is after, and that the second part begins after
pub with_split
    : (e : Edge) (lo hi : List Edge) → ((i : ℕ) → i < length lo → is_before e (get_or lo i e) ≡ false)
    → (0 < length hi → is_before e (get_or hi 0 e) ≡ true) → with_edge e (lo ++ hi) ≡ lo ++ e ∷ hi
unfolding with_edge
with_split e [] [] h k = refl
with_split e [] (d ∷ ds) h k = let t : is_before e d ≡ true = k (omega arith) in simp t
with_split e (d ∷ lo) hi h k =
    let t : is_before e d ≡ false = h 0 (omega arith) in
    let more : with_edge e (lo ++ hi) ≡ lo ++ e ∷ hi = with_split e lo hi (λ i m. h (suc i) (omega arith)) k in
    simp (t, more)

-- an edge before another has other ends, and so has one after it
pub ends_apart : (d e : Edge) → is_before d e ≡ true → is_edge d e.from e.to ≡ false
ends_apart d e h =
    fails_of (is_edge d e.from e.to)
    (λ t. true≢false (sym h ∙ ap (λ (x : Edge). is_before x e) (is_edge_true d e.from e.to t) ∙ before_irreflexive e))

pub ends_apart_after : (d e : Edge) → is_before e d ≡ true → is_edge d e.from e.to ≡ false
ends_apart_after d e h =
    fails_of (is_edge d e.from e.to)
    (λ t. true≢false (sym h ∙ ap (λ (x : Edge). is_before e x) (is_edge_true d e.from e.to t) ∙ before_irreflexive e))

-- where the edge is not there, nothing goes
without_none
    : (e : Edge) (es : List Edge)
    → ((i : ℕ) → i < length es → is_edge (get_or es i e) e.from e.to ≡ false) → without_edge e es ≡ es
unfolding without_edge
without_none e [] h = refl
without_none e (d ∷ es) h =
    let t : is_edge d e.from e.to ≡ false = h 0 (omega arith) in
    let more : without_edge e es ≡ es = without_none e es (λ i m. h (suc i) (omega arith)) in
    simp (t, more)

-- an edge between others with other ends
pub without_split
    : (e : Edge) (lo hi : List Edge)
    → ((i : ℕ) → i < length lo → is_edge (get_or lo i e) e.from e.to ≡ false)
    → ((i : ℕ) → i < length hi → is_edge (get_or hi i e) e.from e.to ≡ false)
    → without_edge e (lo ++ e ∷ hi) ≡ lo ++ hi
unfolding without_edge
without_split e [] hi h k =
    let t = is_edge_same e in
    let more : without_edge e hi ≡ hi = without_none e hi k in
    simp (t, more)
without_split e (d ∷ lo) hi h k =
    let t : is_edge d e.from e.to ≡ false = h 0 (omega arith) in
    let more : without_edge e (lo ++ e ∷ hi) ≡ lo ++ hi = without_split e lo hi (λ i m. h (suc i) (omega arith)) k in
    simp (t, more)

-- the numbers of edges after others
pub numbers_append : (ds es : List Edge) → numbers_of (ds ++ es) ≡ numbers_of ds ++ numbers_of es
unfolding numbers_of
numbers_append [] es = refl
numbers_append (d ∷ ds) es = ap (λ (r : List ℕ). d.from ∷ d.to ∷ r) (numbers_append ds es)

-- two for each edge
pub length_numbers : (es : List Edge) → length (numbers_of es) ≡ 2 * length es
unfolding numbers_of
length_numbers [] = refl
length_numbers (e ∷ es) = omega (arith, length_numbers es)

-- ---- their index

-- to a node that the edge does not lead to
pub predecessors_other
    : (lo : List Edge) (e : Edge) (hi : List Edge) (n : ℕ) → e.to ≢ n → predecessors_of (lo ++ e ∷ hi) n ≡ predecessors_of (lo ++ hi) n
predecessors_other lo e hi n h =
    predecessors_append lo (e ∷ hi) n ∙ ap (λ (r : List ℕ). predecessors_of lo n ++ r) (predecessors_cons_other e hi n h)
    ∙ sym (predecessors_append lo hi n)

-- to the node that it leads to
predecessors_there
    : (lo : List Edge) (e : Edge) (hi : List Edge)
    → predecessors_of (lo ++ e ∷ hi) e.to ≡ predecessors_of lo e.to ++ e.from ∷ predecessors_of hi e.to
predecessors_there lo e hi =
    predecessors_append lo (e ∷ hi) e.to
    ∙ ap (λ (r : List ℕ). predecessors_of lo e.to ++ r) (predecessors_cons_same e hi e.to refl)

-- the nodes up to that one
pub arrivals_before
    : (lo : List Edge) (e : Edge) (hi : List Edge) (n : ℕ) → n ≤ e.to → arrivals (lo ++ e ∷ hi) n ≡ arrivals (lo ++ hi) n
unfolding arrivals
arrivals_before lo e hi zero h = refl
arrivals_before lo e hi (suc n) h =
    let same : arrivals (lo ++ e ∷ hi) n ≡ arrivals (lo ++ hi) n = arrivals_before lo e hi n (omega arith) in
    let other : predecessors_of (lo ++ e ∷ hi) n ≡ predecessors_of (lo ++ hi) n = predecessors_other lo e hi n (λ q. omega arith) in
    ap (λ (r : List ℕ). r ++ predecessors_of (lo ++ e ∷ hi) n) same ∙ ap (λ (r : List ℕ). arrivals (lo ++ hi) n ++ r) other

-- what stands before the edge's from in the index
abbrev pub front_of : List Edge → Edge → List Edge → List ℕ
front_of lo e hi = arrivals (lo ++ hi) e.to ++ predecessors_of lo e.to

-- the index without the edge and with it, past the node that it leads to
pub record Between (lo : List Edge) (e : Edge) (hi : List Edge) (n : ℕ) : Type 0 where
  pub back : List ℕ
  pub without : arrivals (lo ++ hi) n ≡ front_of lo e hi ++ back
  pub with_it : arrivals (lo ++ e ∷ hi) n ≡ front_of lo e hi ++ e.from ∷ back

between_first : (lo : List Edge) (e : Edge) (hi : List Edge) → Between lo e hi (suc e.to)
unfolding arrivals
between_first lo e hi =
    let b = e.to in
    record {
      back = predecessors_of hi b;
      without = ap (λ (r : List ℕ). arrivals (lo ++ hi) b ++ r) (predecessors_append lo hi b)
          ∙ sym (append_assoc (arrivals (lo ++ hi) b) (predecessors_of lo b) (predecessors_of hi b));
      with_it = ap (λ (r : List ℕ). r ++ predecessors_of (lo ++ e ∷ hi) b) (arrivals_before lo e hi b (omega arith))
          ∙ ap (λ (r : List ℕ). arrivals (lo ++ hi) b ++ r) (predecessors_there lo e hi)
          ∙ sym (append_assoc (arrivals (lo ++ hi) b) (predecessors_of lo b) (e.from ∷ predecessors_of hi b));
    }

between_next : (lo : List Edge) (e : Edge) (hi : List Edge) (n : ℕ) → e.to ≢ n → Between lo e hi n → Between lo e hi (suc n)
unfolding arrivals
between_next lo e hi n h b =
    let p = predecessors_of (lo ++ hi) n in
    record {
      back = b.back ++ p;
      without = ap (λ (r : List ℕ). r ++ p) b.without ∙ append_assoc (front_of lo e hi) b.back p;
      with_it = ap (λ (r : List ℕ). arrivals (lo ++ e ∷ hi) n ++ r) (predecessors_other lo e hi n h) ∙ ap (λ (r : List ℕ). r ++ p) b.with_it
          ∙ append_assoc (front_of lo e hi) (e.from ∷ b.back) p;
    }

pub between : (lo : List Edge) (e : Edge) (hi : List Edge) (n : ℕ) → e.to < n → Between lo e hi n
between lo e hi zero h = absurd (not-suc-le-zero h)
between lo e hi (suc n) h =
    ⊎_elim
    (λ (q : e.to ≡ n). subst (λ (m : ℕ). Between lo e hi (suc m)) q (between_first lo e hi))
    (λ (q : e.to < n). between_next lo e hi n (λ r. omega arith) (between lo e hi n q))
    (below_suc h)
