-- What the parts of the buffer make together is the job of the lines.
-- Assumes nothing.
use mathlib.Core.Path.{◌≡◌, refl, sym, ap, ◌∙◌}
use mathlib.Core.Bool.{Bool, not, ◌||◌}
use mathlib.Core.Logic.{by_cases}
use mathlib.Core.List.{List, [], ◌∷◌, ◌++◌, map}
use Prim.Native.Nat.{ℕ, zero, suc, ◌+◌, ◌-◌, ◌≤◌, ◌<◌}
use native.Mathlib.Nat.{add-zero, zero-add, add-suc, suc-add, not-suc-le-zero}
use native.Mathlib.Decide.{dec_lt, dec_le}
use native.Mathlib.Omega.{arith}
use lib.Dec.{eqb, eqb-suc-zero}
use lib.ListN.{length, get_or, drop, length-drop, get_or-eq_default}
use lib.Seq.{get_or-drop}
use Rattle.laws.specs.Bounded.{sum_below, tab_from, tab}
use Rattle.laws.proofs.Bounded.{sum_front, sum_cong, tab_cong, fill_done}
use Rattle.lines.specs.Line.{at}
use Rattle.jobfile.specs.File.{node_of, edge_of, some_entry}
use Rattle.job.specs.Job.{edge}
use Rattle.buffer.specs.Views.{node_in, start_in, target_in, successors_in, edges_from, cell_in, table_in}

-- ---- lists of values

module _ {A B : Type 0} where
  -- the same from place i on
  map_tab_from : (f : A → B) (g : ℕ → A) (n i : ℕ) → map f (tab_from i n g) ≡ tab_from i n (λ k. f (g k))
  unfolding tab_from
  map_tab_from f g zero i = refl
  map_tab_from f g (suc n) i = ap (λ (l : List B). f (g i) ∷ l) (map_tab_from f g n (suc i))

  -- a map over values
  pub map_tab : (f : A → B) (g : ℕ → A) (n : ℕ) → map f (tab n g) ≡ tab n (λ k. f (g k))
  unfolding tab
  map_tab f g n = map_tab_from f g n 0

module _ {A : Type 0} where
  -- values that agree
  values_cong : (f g : ℕ → A) (n i : ℕ) → ((k : ℕ) → i ≤ k → k < i + n → f k ≡ g k) → tab_from i n f ≡ tab_from i n g
  unfolding tab_from
  values_cong f g zero i h = refl
  values_cong f g (suc n) i h = rw (h i (omega arith) (omega arith), values_cong f g n (suc i) (λ k a b. h k (omega arith) (omega arith)))

  -- no value
  values_none : (f : ℕ → A) (i : ℕ) → [] ≡ tab_from i 0 f
  unfolding tab_from
  values_none f i = refl

  -- values after others
  values_append : (f : ℕ → A) (a b i : ℕ) → tab_from i a f ++ tab_from (i + a) b f ≡ tab_from i (a + b) f
  unfolding tab_from
  values_append f zero b i = rw (add-zero i, zero-add b)
  values_append f (suc a) b i =
      let e : i + suc a ≡ suc i + a = omega arith in
      rw (e, suc-add a b) (ap (λ (l : List A). f i ∷ l) (values_append f a b (suc i)))

-- ---- the rule

-- the table is that of the R lines
pub table_same
    : (m : List ℕ) (s a : ℕ) (g : ℕ → List ℕ) → a ≤ 16 → ((q : ℕ) → q < s → length (g q) ≡ a + 2)
    → ((q c : ℕ) → q < s → c < 16 → cell_in m q c ≡ at (g q) (c + 2)) → table_in m s a ≡ map (drop 2) (tab s g)
unfolding table_in
table_same m s a g ha long cells =
    tab_cong s (λ q. tab a (cell_in m q)) (λ q. drop 2 (g q)) row ∙ sym (map_tab (drop 2) g s)
  where
    row : (q : ℕ) → q < s → tab a (cell_in m q) ≡ drop 2 (g q)
    row q h =
        sym
        (fill_done (drop 2 (g q)) a (cell_in m q) 0 (length-drop 2 (g q) ∙ rw (long q h) (omega arith))
        (λ c i. let e : 2 + c ≡ c + 2 = omega arith in get_or-drop 2 (g q) c 0 ∙ ap (λ (k : ℕ). get_or (g q) k 0) e ∙ sym (cells q c h (omega arith))))

-- a cell past the symbols
pub cell_past : (ns : List ℕ) (a c : ℕ) → length ns ≡ a + 2 → a ≤ c → at ns (c + 2) ≡ 0
cell_past ns a c long h = get_or-eq_default ns 0 {n = c + 2} (omega arith)

-- ---- the nodes

-- the nodes are those of the P lines
pub nodes_same
    : (m : List ℕ) (n : ℕ) (g : ℕ → List ℕ) → ((j : ℕ) → j < n → node_in m j ≡ node_of (g j)) → tab n (node_in m) ≡ map node_of (tab n g)
nodes_same m n g h = tab_cong n (node_in m) (λ j. node_of (g j)) h ∙ sym (map_tab node_of g n)

-- a sum is 0 where both numbers are
zero_sum : (x y : ℕ) → (not (eqb x 0) || not (eqb y 0)) ≡ not (eqb (x + y) 0)
zero_sum zero y = rw (zero-add y)
zero_sum (suc x) y = rw (suc-add x y, eqb-suc-zero x, eqb-suc-zero (x + y))

entries_from
    : (g : ℕ → List ℕ) (n i : ℕ) → some_entry (map node_of (tab_from i n g)) ≡ not (eqb (sum_below n (λ j. at (g (i + j)) 3)) 0)
unfolding some_entry tab_from sum_below
entries_from g zero i = refl
entries_from g (suc n) i =
    let first : at (g (i + 0)) 3 ≡ at (g i) 3 = rw (add-zero i) in
    let rest : sum_below n (λ j. at (g (suc i + j)) 3) ≡ sum_below n (λ j. at (g (i + suc j)) 3) =
    sum_cong n (λ j. at (g (suc i + j)) 3) (λ j. at (g (i + suc j)) 3) (λ j h. rw (suc-add i j, add-suc i j)) in
    ap (λ (b : Bool). not (eqb (at (g i) 3) 0) || b) (entries_from g n (suc i))
    ∙ zero_sum (at (g i) 3) (sum_below n (λ j. at (g (suc i + j)) 3))
    ∙ ap (λ (x : ℕ). not (eqb x 0)) (ap (λ (y : ℕ). at (g i) 3 + y) rest ∙ ap (λ (y : ℕ). y + sum_below n (λ j. at (g (i + suc j)) 3)) (sym first) ∙ sym (sum_front n (λ j. at (g (i + j)) 3)))

-- some node is an entry where the sum of the entry sets is not 0
pub entries_test : (g : ℕ → List ℕ) (n : ℕ) → some_entry (map node_of (tab n g)) ≡ not (eqb (sum_below n (λ j. at (g j) 3)) 0)
unfolding tab
entries_test g n =
    entries_from g n 0
    ∙ ap (λ (x : ℕ). not (eqb x 0)) (sum_cong n (λ j. at (g (0 + j)) 3) (λ j. at (g j) 3) (λ j h. rw (zero-add j)))

-- ---- the edges

-- the lines' numbers, and the index of a buffer that agrees with them
module _ (m : List ℕ) (n e : ℕ) (g : ℕ → List ℕ)
    (targets : (i : ℕ) → i < e → target_in m i ≡ at (g i) 1)
    (few : (j : ℕ) → j ≤ n → start_in m j ≤ e)
    (below : (i j : ℕ) → i < e → j ≤ n → i < start_in m j → at (g i) 0 < j)
    (above : (i j : ℕ) → i < e → j ≤ n → start_in m j ≤ i → j ≤ at (g i) 0)
    (sources : (i : ℕ) → i < e → at (g i) 0 < n) where
  -- the starts ascend
  pub starts_ascend : (j : ℕ) → j < n → start_in m j ≤ start_in m (suc j)
  starts_ascend j h =
      by_cases (dec_le (start_in m j) (start_in m (suc j)))
      (λ p. p)
      (λ p.
      let i = start_in m (suc j) in
      let f = few j (omega arith) in
      absurd (omega (arith, below i j (omega arith) (omega arith) (omega arith), above i (suc j) (omega arith) (omega arith) (omega arith))))

  -- the first one is 0
  first_start : start_in m 0 ≡ 0
  first_start =
      by_cases (dec_lt 0 (start_in m 0))
      (λ (p : 0 < start_in m 0). absurd (not-suc-le-zero (below 0 0 (omega (arith, few 0 (omega arith))) (omega arith) p)))
      (λ p. omega arith)

  -- the one past the last node is the number of edges
  last_start : start_in m n ≡ e
  last_start =
      by_cases (dec_lt (start_in m n) e)
      (λ (p : start_in m n < e). absurd (omega (arith, above (start_in m n) n p (omega arith) (omega arith), sources (start_in m n) p)))
      (λ p. omega (arith, few n (omega arith)))

  -- the edges of one node
  node_edges
      : (j : ℕ) → j < n
      → map (edge j) (successors_in m j) ≡ tab_from (start_in m j) (start_in m (suc j) - start_in m j) (λ i. edge_of (g i))
  unfolding successors_in
  node_edges j h =
      map_tab_from (edge j) (target_in m) (start_in m (suc j) - start_in m j) (start_in m j)
      ∙ values_cong (λ i. edge j (target_in m i)) (λ i. edge_of (g i)) (start_in m (suc j) - start_in m j) (start_in m j)
      (λ i a b.
      let s : i < e = omega (arith, few (suc j) h, starts_ascend j h) in
      let from : j ≡ at (g i) 0 = omega (arith, above i j s (omega arith) a, below i (suc j) s h (omega (arith, starts_ascend j h))) in
      ap (λ (t : ℕ). edge j t) (targets i s) ∙ ap (λ (t : ℕ). edge t (at (g i) 1)) from)

  -- the edges of c nodes, from node j on
  from_node
      : (c j : ℕ) → j + c ≤ n → (start_in m j ≤ start_in m (j + c)) × (edges_from m j c ≡ tab_from (start_in m j) (start_in m (j + c) - start_in m j) (λ i. edge_of (g i)))
  unfolding edges_from
  from_node zero j h =
      let e0 : start_in m (j + 0) ≡ start_in m j = rw (add-zero j) in
      let d : start_in m (j + 0) - start_in m j ≡ 0 = omega arith in
      (omega arith, rw d (values_none (λ i. edge_of (g i)) (start_in m j)))
  from_node (suc c) j h =
      let r = from_node c (suc j) (omega arith) in
      let up = starts_ascend j (omega arith) in
      let more = r.0 in
      let next : suc j + c ≡ j + suc c = omega arith in
      let a = start_in m (suc j) - start_in m j in
      let b = start_in m (suc j + c) - start_in m (suc j) in
      let mid : start_in m j + a ≡ start_in m (suc j) = omega arith in
      let all : a + b ≡ start_in m (suc j + c) - start_in m j = omega arith in
      rw (← next) (
        omega arith,
        rw (node_edges j (omega arith), r.1)
            (ap (λ (x : ℕ). tab_from (start_in m j) a (λ i. edge_of (g i)) ++ tab_from x b (λ i. edge_of (g i))) (sym mid)
            ∙ values_append (λ i. edge_of (g i)) a b (start_in m j)
            ∙ ap (λ (x : ℕ). tab_from (start_in m j) x (λ i. edge_of (g i))) all),
      )

  -- the edges are those of the F lines
  pub edges_same : edges_from m 0 n ≡ map edge_of (tab e g)
  unfolding tab
  edges_same =
      let r = from_node n 0 (omega arith) in
      let z : start_in m (0 + n) ≡ start_in m n = rw (zero-add n) in
      let d : start_in m (0 + n) - 0 ≡ e = omega (arith, last_start) in
      r.1
      ∙ ap (λ (x : ℕ). tab_from x (start_in m (0 + n) - x) (λ i. edge_of (g i))) first_start
      ∙ ap (λ (x : ℕ). tab_from 0 x (λ i. edge_of (g i))) d
      ∙ sym (map_tab_from edge_of g e 0)
