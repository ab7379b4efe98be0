-- What an addition and a removal make of lists that are held, by the place of the edge among the edges.
-- Assumes nothing.
use mathlib.Core.Path.{◌≡◌, refl, sym, ap, subst, ◌∙◌}
use mathlib.Core.Logic.{◌≢◌, inl, ⊎_elim, by_cases}
use mathlib.Core.Bool.{true, false, true≢false}
use mathlib.Core.List.{List, [], ◌∷◌, ◌++◌}
use Prim.Native.Nat.{ℕ, zero, suc, ◌+◌, ◌*◌, ◌-◌, ◌≤◌, ◌<◌}
use native.Mathlib.Nat.{le_refl}
use native.Mathlib.Omega.{arith}
use native.Mathlib.Decide.{dec_le, dec_lt, ℕ_discrete}
use lib.Dec.{ltb}
use lib.ListN.{length, get_or, take, drop, length-append, get_or-append, take-append-drop, length-drop}
use lib.Seq.{get_or-append-add, get_or-take, get_or-drop, length-take-le, drop-cons}
use borrow.Author.Tests.{lt-ltb, le-ltb}
use Rattle.laws.proofs.Tests.{passes_or_fails}
use Rattle.job.specs.Job.{Edge, edge, holds}
use Rattle.arrivals.specs.Arrivals.{edge_at, numbers_of, is_before, predecessors_of, arrivals, starts_of, with_edge, without_edge, Lists, edges_of, is_held, becomes}
use Rattle.arrivals.specs.Shifts.{opened, closed, raised, lowered, Downward, Cut}
use Rattle.arrivals.proofs.OrderLaws.{before_true, before_of, before_irreflexive, before_asymmetric, before_total, holds_says, ascend_pairs, ends_below}
use Rattle.arrivals.proofs.PlacedLaws.{length_edges_in, get_d_edges_in, predecessors_append, predecessors_none, predecessors_cons_same, predecessors_cons_other, arrivals_at, length_arrivals_suc, length_arrivals, entry_before}
use Rattle.arrivals.proofs.NumbersLaws.{numbers_first}
use Rattle.arrivals.proofs.BecomesLaws.{becomes_opened, becomes_closed, becomes_raised, becomes_lowered}
use Rattle.arrivals.proofs.SplitLaws.{with_split, without_split, ends_apart, ends_apart_after, numbers_append, length_numbers, arrivals_before, front_of, between}
use Rattle.arrivals.proofs.FitsLaws.{HeldParts, held_parts}

-- ---- general laws

-- what holds of the first number and of the others holds of all
cons_all
    : (P : ℕ → Type 0) (x : ℕ) (xs : List ℕ) → P x → ((i : ℕ) → i < length xs → P (get_or xs i 0)) → (i : ℕ) → i < suc (length xs)
    → P (get_or (x ∷ xs) i 0)
cons_all P x xs here more zero m = here
cons_all P x xs here more (suc i) m = more i (omega arith)

-- what holds of where the edges to a node come from holds of its predecessors
pub predecessors_all
    : (P : ℕ → Type 0) (es : List Edge) (d : Edge) (n : ℕ) → ((i : ℕ) → i < length es → (get_or es i d).to ≡ n → P (get_or es i d).from)
    → (j : ℕ) → j < length (predecessors_of es n) → P (get_or (predecessors_of es n) j 0)
predecessors_all P [] d n h j m = absurd (omega (arith, ap length (predecessors_none n)))
predecessors_all P (e ∷ es) d n h j m =
    let more : (i : ℕ) → i < length (predecessors_of es n) → P (get_or (predecessors_of es n) i 0) =
    predecessors_all P es d n (λ i b. h (suc i) (omega arith)) in
    by_cases (ℕ_discrete e.to n)
    (λ (q : e.to ≡ n).
    let c = predecessors_cons_same e es n q in
    subst (λ (r : List ℕ). P (get_or r j 0)) (sym c) (cons_all P e.from (predecessors_of es n) (h 0 (omega arith) q) more j (subst (λ (r : List ℕ). j < length r) c m)))
    (λ (q : e.to ≢ n).
    let c = predecessors_cons_other e es n q in
    subst (λ (r : List ℕ). P (get_or r j 0)) (sym c) (more j (subst (λ (r : List ℕ). j < length r) c m)))

-- past the node that an edge leads to the index has one number more
one_more : (lo : List Edge) (e : Edge) (hi : List Edge) (n : ℕ) → e.to < n → length (arrivals (lo ++ e ∷ hi) n) ≡ length (arrivals (lo ++ hi) n) + 1
one_more lo e hi n h =
    let w = between lo e hi n h in
    omega (
      arith,
      ap length w.without ∙ length-append (front_of lo e hi) w.back,
      ap length w.with_it ∙ length-append (front_of lo e hi) (e.from ∷ w.back),
    )

-- ---- the place of an edge in lists that are held

module _ (n k a b p : ℕ) (l : Lists) (held : is_held n k l ≡ true) (to : b < n)
    (cut : Cut (λ i. is_before (edge_at l.edges i) (edge a b)) 0 k p) where
  abbrev e : Edge
  e = edge a b

  abbrev es : List Edge
  es = edges_of k l

  -- the edges before the place, and those from it on
  abbrev lo : List Edge
  lo = take p es

  abbrev hi : List Edge
  hi = drop p es

  parts : HeldParts n k l
  parts = held_parts n k l held

  whole : lo ++ hi ≡ es
  whole = take-append-drop p es

  length_lo : length lo ≡ p
  length_lo = length-take-le p es (omega (arith, length_edges_in k l.edges, cut.to_last))

  length_hi : length hi ≡ k - p
  length_hi = length-drop p es ∙ ap (λ (m : ℕ). m - p) (length_edges_in k l.edges)

  lo_at : (i : ℕ) → i < p → get_or lo i e ≡ edge_at l.edges i
  lo_at i m = get_or-take p es i e m ∙ get_d_edges_in k l.edges i e (omega (arith, cut.to_last))

  hi_at : (i : ℕ) → p + i < k → get_or hi i e ≡ edge_at l.edges (p + i)
  hi_at i m = get_or-drop p es i e ∙ get_d_edges_in k l.edges (p + i) e m

  lo_before : (i : ℕ) → i < p → is_before (get_or lo i e) e ≡ true
  lo_before i m = rw (lo_at i m) (cut.passes i (omega arith) m)

  hi_not_before : (i : ℕ) → p + i < k → is_before (get_or hi i e) e ≡ false
  hi_not_before i m = rw (hi_at i m) (cut.fails (p + i) (omega arith) m)

  -- the place of the edge's from among the predecessors
  pub from_place : ℕ
  from_place = length (arrivals es b) + length (predecessors_of lo b)

  -- those of the edges before it are below it
  low : (j : ℕ) → j < length (predecessors_of lo b) → get_or (predecessors_of lo b) j 0 < a
  low =
      predecessors_all (λ x. x < a) lo e b
      (λ i m q.
      let h = before_true (get_or lo i e) e (lo_before i (omega (arith, length_lo))) in
      ⊎_elim (λ (t : (get_or lo i e).from < a). t) (λ (t : ((get_or lo i e).from ≡ a) × ((get_or lo i e).to < b)). omega (arith, t.1, q)) h)

  -- those of the others are not
  high : (j : ℕ) → j < length (predecessors_of hi b) → a ≤ get_or (predecessors_of hi b) j 0
  high =
      predecessors_all (λ x. a ≤ x) hi e b
      (λ i m q.
      by_cases (dec_le a (get_or hi i e).from)
      (λ (t : a ≤ (get_or hi i e).from). t)
      (λ t.
      let f = hi_not_before i (omega (arith, length_hi)) in
      absurd (true≢false (sym (before_of (get_or hi i e) e (inl (omega arith))) ∙ f))))

  -- every edge arrives
  all_arrive : length (arrivals es n) ≡ k
  all_arrive = length_arrivals n k l.edges (ends_below n k l.edges parts.ascend)

  -- where they stand in the list
  entry_at : (j : ℕ) → j < length (predecessors_of es b) → get_or l.predecessors (length (arrivals es b) + j) 0 ≡ get_or (predecessors_of es b) j 0
  entry_at j m =
      parts.predecessors (length (arrivals es b) + j) (omega (arith, all_arrive, entry_before es b n to)) ∙ arrivals_at es b n j to m

  entry_split : predecessors_of es b ≡ predecessors_of lo b ++ predecessors_of hi b
  entry_split = ap (λ (xs : List Edge). predecessors_of xs b) (sym whole) ∙ predecessors_append lo hi b

  entry_length : length (predecessors_of es b) ≡ length (predecessors_of lo b) + length (predecessors_of hi b)
  entry_length = ap length entry_split ∙ length-append (predecessors_of lo b) (predecessors_of hi b)

  below_place : (j : ℕ) → j < length (predecessors_of lo b) → get_or l.predecessors (length (arrivals es b) + j) 0 < a
  below_place j m =
      rw (
        entry_at j (omega (arith, entry_length)),
        ap (λ (xs : List ℕ). get_or xs j 0) entry_split,
        get_or-append (predecessors_of lo b) (predecessors_of hi b) 0 j m,
      )
      (low j m)

  from_place_lem : (j : ℕ) → j < length (predecessors_of hi b) → a ≤ get_or l.predecessors (from_place + j) 0
  unfolding from_place
  from_place_lem j m =
      let pl = length (predecessors_of lo b) in
      let q : length (arrivals es b) + pl + j ≡ length (arrivals es b) + (pl + j) = omega arith in
      rw q
      (rw (
        entry_at (pl + j) (omega (arith, entry_length)),
        ap (λ (xs : List ℕ). get_or xs (pl + j) 0) entry_split,
        get_or-append-add (predecessors_of lo b) (predecessors_of hi b) j 0,
      )
      (high j m))

  -- the starts around the entry
  first_start : get_or l.starts b 0 ≡ length (arrivals es b)
  first_start = parts.starts b (omega arith)

  last_start : get_or l.starts (b + 1) 0 ≡ length (arrivals es b) + length (predecessors_of es b)
  last_start = parts.starts (b + 1) (omega arith) ∙ ap (λ (m : ℕ). length (arrivals es m)) (omega arith) ∙ length_arrivals_suc es b

  -- a predecessor in the entry is below the from exactly before its place
  entry_below : (i : ℕ) → get_or l.starts b 0 ≤ i → i < from_place → ltb (get_or l.predecessors i 0) a ≡ true
  unfolding from_place
  entry_below i g m =
      let s = length (arrivals es b) in
      let q : i ≡ s + (i - s) = omega (arith, first_start) in
      lt-ltb (get_or l.predecessors i 0) a (rw q (below_place (i - s) (omega (arith, first_start))))

  entry_above : (i : ℕ) → from_place ≤ i → i < get_or l.starts (b + 1) 0 → ltb (get_or l.predecessors i 0) a ≡ false
  unfolding from_place
  entry_above i g m =
      let q : i ≡ from_place + (i - from_place) = omega arith in
      le-ltb (get_or l.predecessors i 0) a (rw q (from_place_lem (i - from_place) (omega (arith, last_start, entry_length))))

  -- so a search finds it
  pub number_downward : Downward (λ i. ltb (get_or l.predecessors i 0) a) (get_or l.starts b 0) (get_or l.starts (b + 1) 0)
  number_downward i j f h m t =
      by_cases (dec_lt i from_place)
      (entry_below i f)
      (λ g. absurd (true≢false (sym t ∙ entry_above j (omega arith) m)))

  pub number_found
      : (r : ℕ) → Cut (λ i. ltb (get_or l.predecessors i 0) a) (get_or l.starts b 0) (get_or l.starts (b + 1) 0) r → r ≡ from_place
  unfolding from_place
  number_found r c =
      by_cases (dec_lt r from_place)
      (λ (g : r < from_place).
      absurd
      (true≢false
      (sym (entry_below r c.from_first g) ∙ c.fails r (le_refl r) (omega (arith, last_start, entry_length)))))
      (λ g.
      by_cases (dec_lt from_place r)
      (λ (h : from_place < r).
      absurd
      (true≢false
      (sym (c.passes from_place (omega (arith, first_start)) h) ∙ entry_above from_place (le_refl from_place) (omega (arith, c.to_last)))))
      (λ h. omega arith))

  pub starts_rise : (get_or l.starts b 0 ≤ get_or l.starts (b + 1) 0) × (get_or l.starts (b + 1) 0 ≤ length l.predecessors)
  starts_rise =
      (omega (arith, first_start, last_start), omega (arith, last_start, entry_before es b n to, all_arrive, parts.fit.predecessors_long))

  -- the place is among the predecessors; in a drop's lists before their end
  pub place_in : from_place ≤ k
  unfolding from_place
  place_in = omega (arith, entry_length, entry_before es b n to, all_arrive)

  pub start_small : (i : ℕ) → i ≤ n → get_or l.starts i 0 ≤ k
  start_small i m =
      by_cases (ℕ_discrete i n) (λ (q : i ≡ n). omega (arith, parts.starts i m, ap (λ (j : ℕ). length (arrivals es j)) q, all_arrive))
      (λ q. omega (arith, parts.starts i m, entry_before es i n (omega arith), all_arrive))

  -- ---- the numbers and the index of the edges held, before and after the place

  numbers_at : (i : ℕ) → i < 2 * k → get_or l.edges i 0 ≡ get_or (numbers_of es) i 0
  numbers_at i m =
      sym (ap (λ (xs : List ℕ). get_or xs i 0) (numbers_first k l.edges parts.fit.edges_long) ∙ get_or-take (2 * k) l.edges i 0 m)

  length_numbers_lo : length (numbers_of lo) ≡ 2 * p
  length_numbers_lo = length_numbers lo ∙ ap (λ (m : ℕ). 2 * m) length_lo

  -- ---- an addition

  module _ (absent : holds es a b ≡ false) where
    -- the edge from the place on is after it
    hi_after : 0 < length hi → is_before e (get_or hi 0 e) ≡ true
    hi_after m =
        let there : p + 0 < k = omega (arith, length_hi) in
        ⊎_elim
        (λ (t : is_before e (get_or hi 0 e) ≡ true). t)
        (λ (t : is_before e (get_or hi 0 e) ≡ false).
        let same : get_or hi 0 e ≡ e = before_total (get_or hi 0 e) e (hi_not_before 0 there) t in
        let held_there : holds es a b ≡ true =
        (holds_says es a b e).1 (p, omega (arith, length_edges_in k l.edges), sym (get_d_drop_zero) ∙ same) in
        absurd (true≢false (sym held_there ∙ absent)))
        (passes_or_fails (is_before e (get_or hi 0 e)))
      where
        get_d_drop_zero : get_or hi 0 e ≡ get_or es p e
        get_d_drop_zero = get_or-drop p es 0 e ∙ ap (λ (i : ℕ). get_or es i e) (omega arith)

    with_place : with_edge e es ≡ lo ++ e ∷ hi
    with_place =
        ap (with_edge e) (sym whole)
        ∙ with_split e lo hi (λ i m. before_asymmetric (get_or lo i e) e (lo_before i (omega (arith, length_lo)))) hi_after

    -- what an addition makes of the edges
    pub added_edges : becomes (2 * k) (numbers_of (with_edge e es)) l.edges ≡ opened (2 * p) (2 * k) (a ∷ b ∷ []) l.edges
    unfolding numbers_of
    added_edges =
        let ends = length_numbers_lo in
        let both : length (numbers_of lo) + length (numbers_of hi) ≡ 2 * k =
        omega (arith, length_numbers_lo, length_numbers hi, length_hi, cut.to_last) in
        ap (λ (xs : List Edge). becomes (2 * k) (numbers_of xs) l.edges) with_place
        ∙ ap (λ (xs : List ℕ). becomes (2 * k) xs l.edges) (numbers_append lo (e ∷ hi))
        ∙ ap (λ (m : ℕ). becomes m (numbers_of lo ++ (a ∷ b ∷ numbers_of hi)) l.edges) (sym both)
        ∙ becomes_opened (numbers_of lo) (a ∷ b ∷ []) (numbers_of hi) l.edges
        (λ i m. numbers_at i (omega (arith, both)) ∙ ap (λ (xs : List ℕ). get_or xs i 0) (ap numbers_of (sym whole) ∙ numbers_append lo hi))
        ∙ ap (λ (m : ℕ). opened m (length (numbers_of lo) + length (numbers_of hi)) (a ∷ b ∷ []) l.edges) length_numbers_lo
        ∙ ap (λ (m : ℕ). opened (2 * p) m (a ∷ b ∷ []) l.edges) both

    -- of the predecessors
    pub added_predecessors
        : becomes k (arrivals (with_edge e es) n) l.predecessors ≡ opened from_place k (a ∷ []) l.predecessors
    unfolding from_place
    added_predecessors =
        let w = between lo e hi n to in
        let front = front_of lo e hi in
        let old : arrivals es n ≡ front ++ w.back = ap (λ (xs : List Edge). arrivals xs n) (sym whole) ∙ w.without in
        let both : length front + length w.back ≡ k = sym (length-append front w.back) ∙ ap length (sym old) ∙ all_arrive in
        let here : length front ≡ from_place =
        length-append (arrivals (lo ++ hi) b) (predecessors_of lo b)
        ∙ ap (λ (xs : List Edge). length (arrivals xs b) + length (predecessors_of lo b)) whole in
        ap (λ (xs : List Edge). becomes k (arrivals xs n) l.predecessors) with_place
        ∙ ap (λ (xs : List ℕ). becomes k xs l.predecessors) w.with_it
        ∙ ap (λ (m : ℕ). becomes m (front ++ a ∷ w.back) l.predecessors) (sym both)
        ∙ becomes_opened front (a ∷ []) w.back l.predecessors
        (λ i m. parts.predecessors i (omega (arith, both)) ∙ ap (λ (xs : List ℕ). get_or xs i 0) old)
        ∙ ap (λ (m : ℕ). opened m (length front + length w.back) (a ∷ []) l.predecessors) here
        ∙ ap (λ (m : ℕ). opened from_place m (a ∷ []) l.predecessors) both

    -- of the starts
    pub added_starts : becomes (n + 1) (starts_of (with_edge e es) n) l.starts ≡ raised b n l.starts
    unfolding starts_of
    added_starts =
        becomes_raised n b (λ m. length (arrivals (with_edge e es) m)) l.starts
        (λ i f m.
        ap (λ (xs : List Edge). length (arrivals xs i)) with_place ∙ ap length (arrivals_before lo e hi i f)
        ∙ ap (λ (xs : List Edge). length (arrivals xs i)) whole ∙ sym (parts.starts i m))
        (λ i f m.
        ap (λ (xs : List Edge). length (arrivals xs i)) with_place ∙ one_more lo e hi i f
        ∙ ap (λ (xs : List Edge). length (arrivals xs i) + 1) whole ∙ ap (λ (x : ℕ). x + 1) (sym (parts.starts i m)))

  -- ---- a removal

  module _ (present : holds es a b ≡ true) where
    -- the edge stands at the place
    pub at_place : (p < k) × (edge_at l.edges p ≡ e)
    at_place =
        let w = (holds_says es a b e).0 present in
        let i = w.0 in
        let below : i < k = omega (arith, w.1, length_edges_in k l.edges) in
        let here : edge_at l.edges i ≡ e = sym (get_d_edges_in k l.edges i e below) ∙ w.2 in
        let late : p ≤ i =
        by_cases (dec_le p i) (λ (h : p ≤ i). h)
        (λ h.
        absurd
        (true≢false
        (sym (cut.passes i (omega arith) (omega arith)) ∙ ap (λ (d : Edge). is_before d e) here ∙ before_irreflexive e))) in
        by_cases (ℕ_discrete p i)
        (λ (q : p ≡ i). (omega arith, rw q here))
        (λ q.
        absurd
        (true≢false
        (sym
        (ap (λ (d : Edge). is_before (edge_at l.edges p) d) (sym here)
        ∙ ascend_pairs n k l.edges parts.ascend p i (omega arith) below)
        ∙ cut.fails p (le_refl p) (omega arith))))

    -- the edges past it
    abbrev past : List Edge
    past = drop (suc p) es

    hi_past : hi ≡ e ∷ past
    hi_past =
        let in_es : p < length es = omega (arith, at_place.0, length_edges_in k l.edges) in
        drop-cons es p e in_es
        ∙ ap (λ (d : Edge). d ∷ past) (get_d_edges_in k l.edges p e at_place.0 ∙ at_place.1)

    around : lo ++ e ∷ past ≡ es
    around = ap (λ (xs : List Edge). lo ++ xs) (sym hi_past) ∙ whole

    length_past : length past + 1 ≡ k - p
    length_past = omega (arith, ap length hi_past, length_hi)

    past_after : (i : ℕ) → i < length past → is_before e (get_or past i e) ≡ true
    past_after i m =
        let there : suc p + i < k = omega (arith, length_past) in
        let is : get_or past i e ≡ edge_at l.edges (suc p + i) = get_or-drop (suc p) es i e ∙ get_d_edges_in k l.edges (suc p + i) e there in
        rw is
        (ap (λ (d : Edge). is_before d (edge_at l.edges (suc p + i))) (sym at_place.1)
        ∙ ascend_pairs n k l.edges parts.ascend p (suc p + i) (omega arith) there)

    without_place : without_edge e es ≡ lo ++ past
    without_place =
        ap (without_edge e) (sym around)
        ∙ without_split e lo past (λ i m. ends_apart (get_or lo i e) e (lo_before i (omega (arith, length_lo))))
        (λ i m. ends_apart_after (get_or past i e) e (past_after i m))

    -- what a removal makes of the edges
    pub dropped_edges : becomes (2 * k) (numbers_of (without_edge e es)) l.edges ≡ closed (2 * p) (2 * k) 2 l.edges
    unfolding numbers_of
    dropped_edges =
        let both : length (numbers_of lo) + (2 + length (numbers_of past)) ≡ 2 * k =
        omega (arith, length_numbers_lo, length_numbers past, length_past, at_place.0) in
        ap (λ (xs : List Edge). becomes (2 * k) (numbers_of xs) l.edges) without_place
        ∙ ap (λ (xs : List ℕ). becomes (2 * k) xs l.edges) (numbers_append lo past)
        ∙ ap (λ (m : ℕ). becomes m (numbers_of lo ++ numbers_of past) l.edges) (sym both)
        ∙ becomes_closed (numbers_of lo) (a ∷ b ∷ []) (numbers_of past) l.edges
        (λ i m.
        numbers_at i (omega (arith, both)) ∙ ap (λ (xs : List ℕ). get_or xs i 0) (ap numbers_of (sym around) ∙ numbers_append lo (e ∷ past)))
        ∙ ap (λ (m : ℕ). closed m (length (numbers_of lo) + (2 + length (numbers_of past))) 2 l.edges) length_numbers_lo
        ∙ ap (λ (m : ℕ). closed (2 * p) m 2 l.edges) both

    -- of the predecessors
    pub dropped_predecessors
        : becomes k (arrivals (without_edge e es) n) l.predecessors ≡ closed from_place k 1 l.predecessors
    unfolding from_place
    dropped_predecessors =
        let w = between lo e past n to in
        let front = front_of lo e past in
        let old : arrivals es n ≡ front ++ a ∷ w.back = ap (λ (xs : List Edge). arrivals xs n) (sym around) ∙ w.with_it in
        let both : length front + (1 + length w.back) ≡ k =
        omega (arith, sym (length-append front (a ∷ w.back)) ∙ ap length (sym old) ∙ all_arrive) in
        let here : length front ≡ from_place =
        length-append (arrivals (lo ++ past) b) (predecessors_of lo b)
        ∙ ap (λ (xs : List ℕ). length xs + length (predecessors_of lo b)) (sym (arrivals_before lo e past b (le_refl b)))
        ∙ ap (λ (xs : List Edge). length (arrivals xs b) + length (predecessors_of lo b)) around in
        ap (λ (xs : List Edge). becomes k (arrivals xs n) l.predecessors) without_place
        ∙ ap (λ (xs : List ℕ). becomes k xs l.predecessors) w.without
        ∙ ap (λ (m : ℕ). becomes m (front ++ w.back) l.predecessors) (sym both)
        ∙ becomes_closed front (a ∷ []) w.back l.predecessors
        (λ i m. parts.predecessors i (omega (arith, both)) ∙ ap (λ (xs : List ℕ). get_or xs i 0) old)
        ∙ ap (λ (m : ℕ). closed m (length front + (1 + length w.back)) 1 l.predecessors) here
        ∙ ap (λ (m : ℕ). closed from_place m 1 l.predecessors) both

    -- a start after the node is one more than without the edge
    lower_start : (i : ℕ) → b < i → i ≤ n → get_or l.starts i 0 ≡ length (arrivals (without_edge e es) i) + 1
    lower_start i f m =
        parts.starts i m ∙ ap (λ (xs : List Edge). length (arrivals xs i)) (sym around) ∙ one_more lo e past i f
        ∙ ap (λ (xs : List Edge). length (arrivals xs i) + 1) (sym without_place)

    -- of the starts
    pub dropped_starts : becomes (n + 1) (starts_of (without_edge e es) n) l.starts ≡ lowered b n l.starts
    unfolding starts_of
    dropped_starts =
        becomes_lowered n b (λ m. length (arrivals (without_edge e es) m)) l.starts
        (λ i f m.
        ap (λ (xs : List Edge). length (arrivals xs i)) without_place ∙ ap length (sym (arrivals_before lo e past i f))
        ∙ ap (λ (xs : List Edge). length (arrivals xs i)) around ∙ sym (parts.starts i m))
        (λ i f m. omega (arith, lower_start i f m))

    -- what the moves ask
    pub place_of_one : from_place < k
    unfolding from_place
    place_of_one =
        let one : length (predecessors_of hi b) ≡ suc (length (predecessors_of past b)) =
        ap (λ (xs : List Edge). length (predecessors_of xs b)) hi_past ∙ ap length (predecessors_cons_same e past b refl) in
        omega (arith, one, entry_length, entry_before es b n to, all_arrive)

    pub edge_place_in : p < k
    edge_place_in = at_place.0

    pub some_start : (i : ℕ) → b < i → i ≤ n → 0 < get_or l.starts i 0
    some_start i f m = omega (arith, lower_start i f m)
