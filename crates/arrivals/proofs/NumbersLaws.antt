-- The numbers of edges: a list begins with them exactly where it has those edges; and edges between nodes below a bound, each of which
-- has a place in the index.
-- Assumes nothing.
use mathlib.Core.Path.{◌≡◌, refl, sym, ap, subst, ◌∙◌}
use mathlib.Core.Logic.{◌↔◌}
use mathlib.Core.List.{List, [], ◌∷◌, ◌++◌}
use Prim.Native.Nat.{ℕ, zero, suc, ◌+◌, ◌*◌, ◌≤◌, ◌<◌}
use native.Mathlib.Numerals.{add-one}
use native.Mathlib.Omega.{arith}
use lib.ListN.{length, get_or, take}
use lib.Seq.{take_all}
use Rattle.job.specs.Job.{Edge, edge}
use Rattle.arrivals.specs.Arrivals.{edge_at, edges_in, numbers_of, arrivals}
use Rattle.arrivals.specs.ArrivalsSay.{Within}
use Rattle.arrivals.proofs.ListLaws.{take_long, take_two}
use Rattle.arrivals.proofs.OrderLaws.{edge_ext, holds_at, holds_of}
use Rattle.arrivals.proofs.PlacedLaws.{edges_in_zero, edges_in_suc, length_edges_in, get_d_edges_in, length_arrivals}
use Rattle.arrivals.proofs.SplitLaws.{length_numbers, numbers_append}

-- ---- the numbers of edges

-- the same numbers are of the same edges
pub numbers_inj : (ds es : List Edge) → numbers_of ds ≡ numbers_of es → ds ≡ es
unfolding numbers_of
numbers_inj [] [] h = refl
numbers_inj [] (e ∷ es) h = absurd (omega (arith, ap length h))
numbers_inj (d ∷ ds) [] h = absurd (omega (arith, ap length h))
numbers_inj (d ∷ ds) (e ∷ es) h =
    let from : d.from ≡ e.from = cc in
    let to : d.to ≡ e.to = cc in
    let rest : ds ≡ es = numbers_inj ds es (cc) in
    cc (edge_ext d e from to, rest)

-- of one edge
numbers_one : (e : Edge) → numbers_of (e ∷ []) ≡ e.from ∷ e.to ∷ []
unfolding numbers_of
numbers_one e = refl

-- of none
numbers_none : numbers_of [] ≡ []
unfolding numbers_of
numbers_none = refl

-- the first numbers of a list are those of its first edges
pub numbers_first : (k : ℕ) (l : List ℕ) → 2 * k ≤ length l → numbers_of (edges_in k l) ≡ take (2 * k) l
numbers_first zero l h = ap numbers_of (edges_in_zero l) ∙ numbers_none
numbers_first (suc k) l h =
    let double : suc (suc (2 * k)) ≡ 2 * suc k = omega arith in
    ap numbers_of (edges_in_suc k l)
    ∙ numbers_append (edges_in k l) (edge_at l k ∷ [])
    ∙ ap (λ (r : List ℕ). numbers_of (edges_in k l) ++ r) (numbers_one (edge_at l k))
    ∙ ap (λ (r : List ℕ). r ++ (get_or l (2 * k) 0 ∷ get_or l (2 * k + 1) 0 ∷ [])) (numbers_first k l (omega arith))
    ∙ ap (λ (i : ℕ). take (2 * k) l ++ (get_or l (2 * k) 0 ∷ get_or l i 0 ∷ [])) (add-one (2 * k))
    ∙ sym (take_two l (2 * k) 0 (omega arith))
    ∙ ap (λ (i : ℕ). take i l) double

-- a list that begins with the numbers of edges has those edges
pub edges_taken : (es : List Edge) (l : List ℕ) → take (2 * length es) l ≡ numbers_of es → edges_in (length es) l ≡ es
edges_taken es l e =
    numbers_inj (edges_in (length es) l) es
    (numbers_first (length es) l (take_long (2 * length es) l (numbers_of es) (length_numbers es) e) ∙ e)

-- a list that has edges begins with their numbers
pub taken_edges : (es : List Edge) (l : List ℕ) → edges_in (length es) l ≡ es → 2 * length es ≤ length l → take (2 * length es) l ≡ numbers_of es
taken_edges es l e long = sym (numbers_first (length es) l long) ∙ ap numbers_of e

-- a list begins with the numbers of edges exactly where it is long enough and has those edges
pub numbers_say
    : (es : List Edge) (l : List ℕ)
    → (take (2 * length es) l ≡ numbers_of es) ↔ ((edges_in (length es) l ≡ es) × (2 * length es ≤ length l))
numbers_say es l = (
  λ e. (edges_taken es l e, take_long (2 * length es) l (numbers_of es) (length_numbers es) e),
  λ h. taken_edges es l h.0 h.1,
)

-- ---- edges between nodes below a bound

-- those at a place of a list that has the edges
pub within_at
    : (n : ℕ) (es : List Edge) (l : List ℕ) → Within n es → edges_in (length es) l ≡ es → (i : ℕ) → i < length es
    → ((edge_at l i).from < n) × ((edge_at l i).to < n)
within_at n es l ends own i h =
    let there : get_or es i (edge 0 0) ≡ edge_at l i =
    ap (λ (r : List Edge). get_or r i (edge 0 0)) (sym own) ∙ get_d_edges_in (length es) l i (edge 0 0) h in
    subst (λ (e : Edge). (e.from < n) × (e.to < n)) there
    (ends (get_or es i (edge 0 0)).from (get_or es i (edge 0 0)).to (holds_of es (edge 0 0) i h))

-- where those at each place are, all are
pub within_of
    : (n k : ℕ) (l : List ℕ) → ((i : ℕ) → i < k → ((edge_at l i).from < n) × ((edge_at l i).to < n)) → Within n (edges_in k l)
within_of n k l ends a b h =
    let r = holds_at (edges_in k l) a b (edge 0 0) h in
    let in_k : r.0 < k = rw (length_edges_in k l) at r.1 in
    subst (λ (e : Edge). (e.from < n) × (e.to < n)) (sym (get_d_edges_in k l r.0 (edge 0 0) in_k) ∙ r.2) (ends r.0 in_k)

-- the numbers of edges have those edges
pub edges_own : (es : List Edge) → edges_in (length es) (numbers_of es) ≡ es
edges_own es = edges_taken es (numbers_of es) (take_all (2 * length es) (numbers_of es) (omega (arith, length_numbers es)))

-- each edge has a place in the index
pub length_index : (n : ℕ) (es : List Edge) → Within n es → length (arrivals es n) ≡ length es
length_index n es ends =
    ap (λ (r : List Edge). length (arrivals r n)) (sym (edges_own es))
    ∙ length_arrivals n (length es) (numbers_of es) (λ i h. (within_at n es (numbers_of es) ends (edges_own es) i h).1)
