-- The index of edges: a node's predecessors ascend and are the nodes with an edge to it, and they stand where the starts say.
-- Why: the edges to a node ascend by from, and the predecessors of fewer nodes stand first.
-- Assumes nothing.
use mathlib.Core.Path.{◌≡◌, refl, sym, ap, ◌∙◌}
use mathlib.Core.Logic.{◌≢◌, ◌⊎◌, inl, inr, ⊎_elim, by_cases}
use mathlib.Core.Bool.{true, true≢false}
use mathlib.Core.List.{List, [], ◌∷◌, ◌++◌, append-nil, append_assoc}
use Prim.Native.Nat.{ℕ, zero, suc, ◌+◌, ◌-◌, ◌≤◌, ◌<◌, zero-le, suc-le-suc}
use native.Mathlib.Nat.{le_of_suc-le-suc, eq-or-lt_of_le, not-suc-le-zero, le_refl}
use native.Mathlib.Numerals.{add-one}
use native.Mathlib.Decide.{ℕ_discrete}
use native.Mathlib.Omega.{arith}
use lib.ListN.{length, get_or, drop}
use lib.Seq.{take_at, drop_at}
use Rattle.laws.proofs.Bounded.{length_tab}
use Rattle.laws.proofs.Tests.{or_passes}
use Rattle.job.specs.Job.{Edge, edge, holds}
use Rattle.jobfile.specs.Spellable.{Before, Ascending}
use Rattle.arrivals.specs.Arrivals.{predecessors_of, arrivals, starts_of}
use Rattle.arrivals.specs.ArrivalsSay.{In, entry_of, IndexSays}
use Rattle.arrivals.proofs.OrderLaws.{rest_ascends}
use Rattle.arrivals.proofs.PlacedLaws.{predecessors_none, predecessors_cons_same, predecessors_cons_other, length_arrivals_suc, length_arrivals_zero}
use Rattle.arrivals.proofs.FitsLaws.{get_d_starts}
use Rattle.arrivals.proofs.WithLaws.{is_edge, is_edge_true, holds_first, holds_later, held_after}
use Rattle.arrivals.proofs.NumbersLaws.{length_index}

-- ---- a number in a list

-- the first of a list is in it
in_first : (x : ℕ) (xs : List ℕ) → In x (x ∷ xs)
in_first x xs = (0, suc-le-suc zero-le, refl)

-- what is in a list is in it with one before
in_later : (m x : ℕ) (xs : List ℕ) → In m xs → In m (x ∷ xs)
in_later m x xs h = (suc h.0, suc-le-suc h.1, h.2)

-- what is in it with one before is that one or in the list
in_parts : (m x : ℕ) (xs : List ℕ) → In m (x ∷ xs) → (x ≡ m) ⊎ In m xs
in_parts m x xs h = go h.0 h.1 h.2
  where
    go : (i : ℕ) → i < length (x ∷ xs) → get_or (x ∷ xs) i 0 ≡ m → (x ≡ m) ⊎ In m xs
    go zero b e = inl e
    go (suc i) b e = inr (i, le_of_suc-le-suc b, e)

-- ---- the predecessors of a node

-- an edge leads from each of them
in_held : (es : List Edge) (m n : ℕ) → In m (predecessors_of es n) → holds es m n ≡ true
in_held [] m n h =
    let h' : In m [] = rw (predecessors_none n) at h in
    absurd (not-suc-le-zero h'.1)
in_held (e ∷ es) m n h =
    by_cases (ℕ_discrete e.to n)
    (λ (q : e.to ≡ n).
    let h' : In m (e.from ∷ predecessors_of es n) = rw (predecessors_cons_same e es n q) at h in
    ⊎_elim
    (λ (r : e.from ≡ m). holds_first e es m n r q)
    (λ (r : In m (predecessors_of es n)). holds_later e es m n (in_held es m n r))
    (in_parts m e.from (predecessors_of es n) h'))
    (λ (q : e.to ≢ n).
    let h' : In m (predecessors_of es n) = rw (predecessors_cons_other e es n q) at h in
    holds_later e es m n (in_held es m n h'))

-- each node from which an edge leads is among them
held_in : (es : List Edge) (m n : ℕ) → holds es m n ≡ true → In m (predecessors_of es n)
unfolding holds
held_in [] m n h = absurd (true≢false (sym h))
held_in (e ∷ es) m n h =
    ⊎_elim
    (λ (t : is_edge e m n ≡ true).
    let same : e ≡ edge m n = is_edge_true e m n t in
    let from : e.from ≡ m = ap (λ (f : Edge). f.from) same in
    rw (predecessors_cons_same e es n (ap (λ (f : Edge). f.to) same), from) (in_first m (predecessors_of es n)))
    (λ (t : holds es m n ≡ true).
    by_cases (ℕ_discrete e.to n)
    (λ (q : e.to ≡ n). rw (predecessors_cons_same e es n q) (in_later m e.from (predecessors_of es n) (held_in es m n t)))
    (λ (q : e.to ≢ n). rw (predecessors_cons_other e es n q) (held_in es m n t)))
    (or_passes (is_edge e m n) (holds es m n) h)

-- the numbers of a list ascend
abbrev Rising : List ℕ → Type 0
Rising xs = (i j : ℕ) → i < j → j < length xs → get_or xs i 0 < get_or xs j 0

-- a number below all others may stand first
rising_cons : (x : ℕ) (xs : List ℕ) → ((m : ℕ) → In m xs → x < m) → Rising xs → Rising (x ∷ xs)
rising_cons x xs low up i zero h b = absurd (not-suc-le-zero h)
rising_cons x xs low up zero (suc j) h b = low (get_or xs j 0) (j, le_of_suc-le-suc b, refl)
rising_cons x xs low up (suc i) (suc j) h b = up i j (le_of_suc-le-suc h) (le_of_suc-le-suc b)

-- of edges to one node the first has the lowest from
lowest : (e : Edge) (es : List Edge) → Ascending (e ∷ es) → (m : ℕ) → holds es m e.to ≡ true → e.from < m
lowest e es up m h = go (held_after up m e.to h)
  where
    go : Before e (edge m e.to) → e.from < m
    go (inl b) = b
    go (inr b) = omega arith

-- they ascend where the edges do
rising : (es : List Edge) (n : ℕ) → Ascending es → Rising (predecessors_of es n)
rising [] n up = rw (predecessors_none n) (λ i j h b. absurd (not-suc-le-zero b))
rising (e ∷ es) n up =
    by_cases (ℕ_discrete e.to n)
    (λ (q : e.to ≡ n).
    rw (predecessors_cons_same e es n q)
    (rising_cons e.from (predecessors_of es n) (λ m h. lowest e es up m (rw q (in_held es m n h))) (rising es n (rest_ascends up))))
    (λ (q : e.to ≢ n). rw (predecessors_cons_other e es n q) (rising es n (rest_ascends up)))

-- ---- where they stand

-- the predecessors of fewer nodes stand first
pub arrivals_part : (es : List Edge) (m n : ℕ) → m ≤ n → (rest : List ℕ) × (arrivals es n ≡ arrivals es m ++ rest)
unfolding arrivals
arrivals_part es m zero h =
    let none : 0 ≡ m = omega arith in
    ([], ap (arrivals es) none ∙ sym (append-nil (arrivals es m)))
arrivals_part es m (suc n) h =
    ⊎_elim
    (λ (q : m ≡ suc n). ([], ap (arrivals es) (sym q) ∙ sym (append-nil (arrivals es m))))
    (λ (q : m < suc n).
    let r = arrivals_part es m n (le_of_suc-le-suc q) in (
      r.0 ++ predecessors_of es n,
      ap (λ (ps : List ℕ). ps ++ predecessors_of es n) r.1 ∙ append_assoc (arrivals es m) r.0 (predecessors_of es n),
    ))
    (eq-or-lt_of_le h)

-- a node's stand after those of the nodes before it
pub arrivals_entry
    : (es : List Edge) (m n : ℕ) → m < n
    → (rest : List ℕ) × (arrivals es n ≡ arrivals es m ++ (predecessors_of es m ++ rest))
unfolding arrivals
arrivals_entry es m n h =
    let r = arrivals_part es (suc m) n h in
    (r.0, r.1 ∙ append_assoc (arrivals es m) (predecessors_of es m) r.0)

-- there is a start for each node, and one more
pub length_starts : (es : List Edge) (n : ℕ) → length (starts_of es n) ≡ n + 1
unfolding starts_of
length_starts es n = length_tab (n + 1) (λ m. length (arrivals es m))

-- a start is as far past the one before as its node has predecessors
next_start
    : (es : List Edge) (n m : ℕ) → m < n → get_or (starts_of es n) (m + 1) 0 ≡ get_or (starts_of es n) m 0 + length (predecessors_of es m)
next_start es n m h =
    let next : length (arrivals es (m + 1)) ≡ length (arrivals es (suc m)) = ap (λ (k : ℕ). length (arrivals es k)) (add-one m) in
    omega (arith, get_d_starts es n m (omega arith), get_d_starts es n (m + 1) (omega arith), length_arrivals_suc es m, next)

-- so a node's predecessors are as many as the starts are apart
pub starts_apart
    : (es : List Edge) (n m : ℕ) → m < n → get_or (starts_of es n) (m + 1) 0 - get_or (starts_of es n) m 0 ≡ length (predecessors_of es m)
starts_apart es n m h = omega (arith, next_start es n m h)

-- they stand where the starts say
stands : (es : List Edge) (n m : ℕ) → m < n → entry_of (arrivals es n) (starts_of es n) m ≡ predecessors_of es m
stands es n m h =
    let r = arrivals_entry es m n h in
    let at : drop (length (arrivals es m)) (arrivals es n) ≡ predecessors_of es m ++ r.0 =
    ap (drop (length (arrivals es m))) r.1
    ∙ drop_at (arrivals es m) (predecessors_of es m ++ r.0) (length (arrivals es m)) refl in
    rw (starts_apart es n m h, get_d_starts es n m (omega arith), at)
    (take_at (predecessors_of es m) r.0 (length (predecessors_of es m)) refl)

-- the index is what is said
pub index_says : IndexSays
index_says =
    record {
      ascends = λ es n i j up. rising es n up i j;
      leading = λ es m n. (in_held es m n, held_in es m n);
      stands = stands;
      counts = length_index;
      starts_count = length_starts;
      first_start = λ es n. get_d_starts es n 0 (omega arith) ∙ length_arrivals_zero es;
      next_start = next_start;
      last_start = λ n es within. get_d_starts es n n (le_refl n) ∙ length_index n es within;
    }
