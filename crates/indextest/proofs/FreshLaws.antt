-- Laws of the test of the index, in the shape of the code: the walk over the edges, and what its outcome says of the index.
-- Assumes nothing.
use mathlib.Core.Path.{◌≡◌, refl, sym, ap, ◌∙◌}
use mathlib.Core.Logic.{◌↔◌}
use mathlib.Core.Bool.{Bool, true, false, ◌&&◌, false≢true, true≢false, and-eq-true_iff}
use mathlib.Core.List.{List}
use Prim.Native.Nat.{ℕ, zero, suc, ◌+◌, ◌≤◌, ◌<◌}
use native.Mathlib.Numerals.{add-one}
use native.Mathlib.Omega.{arith}
use lib.Dec.{eqb, ltb}
use lib.ListN.{length, get_or, set, take, drop, length-set, length-drop}
use lib.Pointwise.{pointwise, bytes_decides}
use lib.Seq.{length-take-le, get_or-take, get_or-drop, ext_get_or}
use borrow.Author.Tests.{ltb-true, eqb-true, lt-ltb, eq-eqb, ne_eqb}
use Rattle.laws.specs.Bounded.{all_below}
use Rattle.laws.proofs.Bounded.{all_none, all_more, all_end, all_fails, all_at, all_of}
use Rattle.laws.proofs.Tests.{fails_of, test_ext}
use Rattle.arrivals.specs.Arrivals.{edge_at, edges_in, arrivals, starts_of, lists, begins, is_fresh}
use Rattle.arrivals.proofs.FitsLaws.{get_d_starts}
use Rattle.arrivals.specs.Placed.{place_of, Placed, Advanced, stands_at, Arrived, Copied, meets_at, meets}
use Rattle.arrivals.proofs.PlacedLaws.{length_arrivals_zero, length_arrivals_suc, place_below, place_at, placed_all, advanced_none, advanced_more, advanced_all}

-- ---- the walk over the edges

-- the first i edges stand at their places
pub record Arriving (l p s c : List ℕ) (k i : ℕ) : Type 0 where
  pub long : length c ≡ length s
  pub stand : all_below i (stands_at k s p l) ≡ true
  pub cursors : Advanced s c l i

-- an edge stands where the cursor of its node says
stands_says
    : (k : ℕ) (s p l : List ℕ) (i : ℕ)
    → (stands_at k s p l i ≡ true) ↔ ((place_of s l i < k) × (get_or p (place_of s l i) 0 ≡ (edge_at l i).from))
stands_says k s p l i =
    let q = place_of s l i in
    let a = (edge_at l i).from in
    let both = and-eq-true_iff (ltb q k) (eqb (get_or p q 0) a) in (
      λ h. (ltb-true q k (both.0 h).0, eqb-true (get_or p q 0) a (both.0 h).1),
      λ h. both.1 (lt-ltb q k h.0, eq-eqb (get_or p q 0) a h.1),
    )

-- no edge is walked over yet
pub arriving_none : (l p s : List ℕ) (k : ℕ) → Arriving l p s s k 0
arriving_none l p s k = record { long = refl; stand = all_none (stands_at k s p l); cursors = advanced_none s l }

-- all are
pub arriving_all : (l p s c : List ℕ) (k i : ℕ) → i ≤ k → k ≤ i → Arriving l p s c k i → Arrived l p s c k true
arriving_all l p s c k i a b h = record {
  test = sym (all_end k i (stands_at k s p l) h.stand b);
  cursors = λ _. advanced_all s c l i k a b h.cursors;
}

module _ (l p s c : List ℕ) (k i : ℕ) (below : i < k) (in_table : (edge_at l i).to < length s) (h : Arriving l p s c k i) where
  -- the cursor of its node is the edge's place
  abbrev at : ℕ
  at = get_or c (edge_at l i).to 0

  cursor_is : at ≡ place_of s l i
  cursor_is = h.cursors (edge_at l i).to (omega (arith, h.long))

  -- one edge more
  pub arriving_more
      : at < k → get_or p at 0 ≡ (edge_at l i).from → Arriving l p s (set c (edge_at l i).to (at + 1)) k (i + 1)
  arriving_more a b = record {
    long = length-set c (edge_at l i).to (at + 1) ∙ h.long;
    stand =
        all_more i (stands_at k s p l) h.stand
        ((stands_says k s p l i).1 (omega (arith, cursor_is), ap (λ (q : ℕ). get_or p q 0) (sym cursor_is) ∙ b));
    cursors = advanced_more s c l i (omega (arith, h.long)) h.cursors;
  }

  -- one that does not stand there
  pub arriving_stops : ((at < k) × (get_or p at 0 ≡ (edge_at l i).from) → ⊥) → Arrived l p s c k false
  arriving_stops g = record {
    test =
        sym
        (all_fails k (stands_at k s p l) i below
        (fails_of (stands_at k s p l i)
        (λ y.
        let t = (stands_says k s p l i).0 y in
        g (omega (arith, cursor_is, t.0), ap (λ (q : ℕ). get_or p q 0) cursor_is ∙ t.1))));
    cursors = λ y. absurd (false≢true y);
  }

-- ---- the cursors after the walk

-- the first start is not 0
pub meets_first : (n : ℕ) (s c : List ℕ) → (get_or s 0 0 ≡ 0 → ⊥) → false ≡ meets n s c
meets_first n s c h = sym (ap (λ (b : Bool). b && all_below n (meets_at s c)) (ne_eqb (get_or s 0 0) 0 h))

-- where it is, the others decide
meets_others : (n : ℕ) (s c : List ℕ) → get_or s 0 0 ≡ 0 → meets n s c ≡ all_below n (meets_at s c)
meets_others n s c h = ap (λ (b : Bool). b && all_below n (meets_at s c)) (eq-eqb (get_or s 0 0) 0 h)

-- they are tested as two parts that are the same
pub meets_parts
    : (n k : ℕ) (s c : List ℕ) → k ≡ n → n + 1 ≤ length s → n ≤ length c → get_or s 0 0 ≡ 0
    → pointwise eqb (take n c) (take k (drop 1 s)) ≡ meets n s c
meets_parts n k s c q fits room z =
    let xs = take n c in
    let ys = take k (drop 1 s) in
    let left = length-take-le n c room in
    let right = length-take-le k (drop 1 s) (omega (arith, length-drop 1 s)) in
    let next : (m : ℕ) → m < n → get_or ys m 0 ≡ get_or s (m + 1) 0 = λ m b.
    get_or-take k (drop 1 s) m 0 (omega arith) ∙ get_or-drop 1 s m 0 ∙ ap (λ (i : ℕ). get_or s i 0) (omega arith) in
    test_ext (pointwise eqb xs ys) (all_below n (meets_at s c))
    (λ h.
    let e = (bytes_decides xs ys).0 h in
    all_of n (meets_at s c)
    (λ m b.
    eq-eqb (get_or c m 0) (get_or s (m + 1) 0)
    (sym (get_or-take n c m 0 b) ∙ ap (λ (l : List ℕ). get_or l m 0) e ∙ next m b)))
    (λ h.
    (bytes_decides xs ys).1
    (ext_get_or 0 xs ys (left ∙ sym (right ∙ q))
    (λ m b.
    let below : m < n = omega arith in
    get_or-take n c m 0 below ∙ eqb-true (get_or c m 0) (get_or s (m + 1) 0) (all_at n (meets_at s c) h m below)
    ∙ sym (next m below))))
    ∙ sym (meets_others n s c z)

-- ---- what a fresh index is

-- each number is that of the arrivals, and each start the number of arrivals before it
pub record Fresh (n k : ℕ) (l p s : List ℕ) : Type 0 where
  pub predecessors : (q : ℕ) → q < k → get_or p q 0 ≡ get_or (arrivals (edges_in k l) n) q 0
  pub starts : (m : ℕ) → m < n + 1 → get_or s m 0 ≡ length (arrivals (edges_in k l) m)

-- a list begins with another where their numbers are the same
begins_says : (k : ℕ) (l m : List ℕ) → (begins k l m ≡ true) ↔ ((i : ℕ) → i < k → get_or l i 0 ≡ get_or m i 0)
unfolding begins
begins_says k l m =
    let f : ℕ → Bool = λ i. eqb (get_or l i 0) (get_or m i 0) in
    (λ h i b. eqb-true (get_or l i 0) (get_or m i 0) (all_at k f h i b), λ h. all_of k f (λ i b. eq-eqb (get_or l i 0) (get_or m i 0) (h i b)))

-- the test says so
pub fresh_says : (n k : ℕ) (l p s : List ℕ) → (is_fresh n k (lists l p s) ≡ true) ↔ Fresh n k l p s
unfolding is_fresh
fresh_says n k l p s =
    let es = edges_in k l in
    let both = and-eq-true_iff (begins k p (arrivals es n)) (begins (n + 1) s (starts_of es n)) in
    let first = begins_says k p (arrivals es n) in
    let second = begins_says (n + 1) s (starts_of es n) in (
      λ h. record {
        predecessors = first.0 (both.0 h).0;
        starts = λ m b. second.0 (both.0 h).1 m b ∙ get_d_starts (edges_in k l) n m (omega arith);
      },
      λ f. both.1 (first.1 f.predecessors, second.1 (λ m b. f.starts m b ∙ sym (get_d_starts (edges_in k l) n m (omega arith)))),
    )

-- ---- from the walk to the index

module _ (n k : ℕ) (l p s t : List ℕ) (to : (i : ℕ) → i < k → (edge_at l i).to < n) (copied : Copied n s t) where
  -- in a fresh index every edge stands at its place
  fresh_stands : Fresh n k l p s → all_below k (stands_at k t p l) ≡ true
  fresh_stands f =
      let starts : (m : ℕ) → m < n → get_or t m 0 ≡ length (arrivals (edges_in k l) m) = λ m b. copied m b ∙ f.starts m (omega arith) in
      all_of k (stands_at k t p l)
      (λ i b.
      let low = place_below n k l t to starts i b in
      (stands_says k t p l i).1 (low, f.predecessors (place_of t l i) low ∙ place_at n k l t to starts i b))

  -- and every cursor goes to the next start
  fresh_meets : (c : List ℕ) → n ≤ length c → Advanced t c l k → Fresh n k l p s → meets n s c ≡ true
  fresh_meets c long a f =
      let es = edges_in k l in
      (and-eq-true_iff (eqb (get_or s 0 0) 0) (all_below n (meets_at s c))).1 (
        eq-eqb (get_or s 0 0) 0 (f.starts 0 (omega arith) ∙ length_arrivals_zero es),
        all_of n (meets_at s c)
            (λ m b.
            let more : length (arrivals es (m + 1)) ≡ _ = ap (λ (x : ℕ). length (arrivals es x)) (add-one m) ∙ length_arrivals_suc es m in
            eq-eqb (get_or c m 0) (get_or s (m + 1) 0)
            (omega (arith, a m (omega arith), copied m b, f.starts m (omega arith), f.starts (m + 1) (omega arith), more))),
      )

  -- where every cursor goes to the next start, each start is the number of arrivals before it
  meets_starts
      : (c : List ℕ) → n ≤ length c → Advanced t c l k → meets n s c ≡ true → (m : ℕ) → m < n + 1
      → get_or s m 0 ≡ length (arrivals (edges_in k l) m)
  meets_starts c long a h =
      let both = (and-eq-true_iff (eqb (get_or s 0 0) 0) (all_below n (meets_at s c))).0 h in
      go (eqb-true (get_or s 0 0) 0 both.0)
      (λ m b. eqb-true (get_or c m 0) (get_or s (m + 1) 0) (all_at n (meets_at s c) both.1 m b))
    where
      go
          : get_or s 0 0 ≡ 0 → ((m : ℕ) → m < n → get_or c m 0 ≡ get_or s (m + 1) 0) → (m : ℕ) → m < n + 1
          → get_or s m 0 ≡ length (arrivals (edges_in k l) m)
      go z e zero b = z ∙ sym (length_arrivals_zero (edges_in k l))
      go z e (suc m) b =
          let next : get_or c m 0 ≡ get_or s (suc m) 0 = rw (← add-one m) (e m (omega arith)) in
          omega
          (arith, next, a m (omega arith), copied m (omega arith), go z e m (omega arith), length_arrivals_suc (edges_in k l) m)

  -- an edge that does not stand at its place shows that the index is not fresh
  pub fresh_fails : false ≡ all_below k (stands_at k t p l) → false ≡ is_fresh n k (lists l p s)
  fresh_fails h =
      sym
      (fails_of (is_fresh n k (lists l p s)) (λ y. true≢false (sym (fresh_stands ((fresh_says n k l p s).0 y)) ∙ sym h)))

  -- where all stand, the rest of the test decides
  pub fresh_rest
      : (c : List ℕ) → n ≤ length c → true ≡ all_below k (stands_at k t p l) → Advanced t c l k
      → meets n s c ≡ is_fresh n k (lists l p s)
  fresh_rest c long h a =
      test_ext (meets n s c) (is_fresh n k (lists l p s)) there
      (λ y. fresh_meets c long a ((fresh_says n k l p s).0 y))
    where
      there : meets n s c ≡ true → is_fresh n k (lists l p s) ≡ true
      there m =
          let starts = meets_starts c long a m in
          let placed : Placed t p l k = λ j b. ((stands_says k t p l j).0 (all_at k (stands_at k t p l) (sym h) j b)).1 in
          (fresh_says n k l p s).1
          record {
            predecessors = placed_all n k l t to (λ x b. copied x b ∙ starts x (omega arith)) p placed;
            starts = starts;
          }
