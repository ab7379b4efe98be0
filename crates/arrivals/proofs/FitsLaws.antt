-- What the tests of lent lists say, part by part.
-- Assumes nothing.
use mathlib.Core.Path.{◌≡◌, ◌∙◌}
use mathlib.Core.Bool.{Bool, true, false, ◌&&◌, and-eq-true_iff}
use mathlib.Core.List.{List}
use Prim.Native.Nat.{ℕ, ◌+◌, ◌*◌, ◌≤◌, ◌<◌}
use native.Mathlib.Omega.{arith}
use lib.Dec.{eqb}
use lib.ListN.{length, get_or}
use borrow.Author.Tests.{le-leb, leb-true, eqb-true}
use Rattle.laws.specs.Bounded.{all_below}
use Rattle.laws.proofs.Bounded.{all_at, get_d_tab}
use Rattle.laws.proofs.Tests.{fails_of}
use Rattle.job.specs.Job.{Edge}
use Rattle.arrivals.specs.Arrivals.{arrivals, starts_of, ascend_below, begins, Lists, fits, edges_of, is_fresh, is_held}

-- the limits of N and of the count, and lists with the numbers that they name
pub record Fits (n k : ℕ) (l : Lists) : Type 0 where
  pub some_node : 1 ≤ n
  pub few_nodes : n ≤ 512
  pub few_edges : k ≤ 2048
  pub edges_long : 2 * k ≤ length l.edges
  pub predecessors_long : k ≤ length l.predecessors
  pub starts_long : n + 1 ≤ length l.starts

-- what the test says, both ways
pub fits_true : (n k : ℕ) (l : Lists) → fits n k l ≡ true → Fits n k l
unfolding fits
fits_true n k l h =
    let a = (and-eq-true_iff _ _).0 h in
    let b = (and-eq-true_iff _ _).0 a.0 in
    let c = (and-eq-true_iff _ _).0 b.0 in
    let d = (and-eq-true_iff _ _).0 c.0 in
    let e = (and-eq-true_iff _ _).0 d.0 in
    record {
      some_node = leb-true _ _ e.0;
      few_nodes = leb-true _ _ e.1;
      few_edges = leb-true _ _ d.1;
      edges_long = leb-true _ _ c.1;
      predecessors_long = leb-true _ _ b.1;
      starts_long = leb-true (n + 1) (length l.starts) a.1;
    }

pub fits_of : (n k : ℕ) (l : Lists) → Fits n k l → fits n k l ≡ true
unfolding fits
fits_of n k l w =
    simp (
      le-leb 1 n w.some_node,
      le-leb n 512 w.few_nodes,
      le-leb k 2048 w.few_edges,
      le-leb (2 * k) (length l.edges) w.edges_long,
      le-leb k (length l.predecessors) w.predecessors_long,
      le-leb (n + 1) (length l.starts) w.starts_long,
    )

pub not_fits : (n k : ℕ) (l : Lists) → (Fits n k l → ⊥) → fits n k l ≡ false
not_fits n k l h = fails_of (fits n k l) (λ e. h (fits_true n k l e))

-- the parts of lists that are held
pub record HeldParts (n k : ℕ) (l : Lists) : Type 0 where
  pub fit : Fits n k l
  pub ascend : ascend_below n k l.edges ≡ true
  pub predecessors : (i : ℕ) → i < k → get_or l.predecessors i 0 ≡ get_or (arrivals (edges_of k l) n) i 0
  pub starts : (i : ℕ) → i ≤ n → get_or l.starts i 0 ≡ length (arrivals (edges_of k l) i)

-- the index that passes its test, place by place
fresh_parts
    : (n k : ℕ) (l : Lists) → is_fresh n k l ≡ true
    → ((i : ℕ) → i < k → get_or l.predecessors i 0 ≡ get_or (arrivals (edges_of k l) n) i 0)
    × ((i : ℕ) → i < n + 1 → get_or l.starts i 0 ≡ get_or (starts_of (edges_of k l) n) i 0)
unfolding is_fresh begins
fresh_parts n k l h =
    let es = edges_of k l in
    let f : ℕ → Bool = λ i. eqb (get_or l.predecessors i 0) (get_or (arrivals es n) i 0) in
    let g : ℕ → Bool = λ i. eqb (get_or l.starts i 0) (get_or (starts_of es n) i 0) in
    let both = (and-eq-true_iff (all_below k f) (all_below (n + 1) g)).0 h in (
      λ i m. eqb-true (get_or l.predecessors i 0) (get_or (arrivals es n) i 0) (all_at k f both.0 i m),
      λ i m. eqb-true (get_or l.starts i 0) (get_or (starts_of es n) i 0) (all_at (n + 1) g both.1 i m),
    )

-- a start of the index
pub get_d_starts : (es : List Edge) (n i : ℕ) → i ≤ n → get_or (starts_of es n) i 0 ≡ length (arrivals es i)
unfolding starts_of
get_d_starts es n i m = get_d_tab (n + 1) (λ j. length (arrivals es j)) i 0 (omega arith)

pub held_parts : (n k : ℕ) (l : Lists) → is_held n k l ≡ true → HeldParts n k l
unfolding is_held
held_parts n k l h =
    let a = (and-eq-true_iff (fits n k l && ascend_below n k l.edges) (is_fresh n k l)).0 h in
    let b = (and-eq-true_iff (fits n k l) (ascend_below n k l.edges)).0 a.0 in
    let c = fresh_parts n k l a.1 in
    record {
      fit = fits_true n k l b.0;
      ascend = b.1;
      predecessors = c.0;
      starts = λ i m. c.1 i (omega arith) ∙ get_d_starts (edges_of k l) n i m;
    }
