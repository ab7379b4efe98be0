-- Laws of the reader of P lines, in the shape of the code.
-- Assumes nothing.
use mathlib.Core.Path.{◌≡◌, refl, sym, ap, ◌∙◌}
use mathlib.Core.Logic.{inl, ⊎_elim}
use mathlib.Core.List.{List, []}
use Prim.Native.Nat.{ℕ, ◌+◌, ◌*◌, ◌≤◌, ◌<◌}
use native.Mathlib.Nat.{not-suc-le-zero, eq-or-lt_of_le, le_of_suc-le-suc}
use native.Mathlib.Numerals.{add-one}
use native.Mathlib.Omega.{arith}
use lib.Dec.{lit<}
use lib.ListN.{length, drop, length-drop}
use Rattle.laws.specs.Bounded.{sum_below}
use Rattle.laws.proofs.Bounded.{sum_none, sum_more}
use Rattle.std.specs.Prelude.{Result, Ok}
use Rattle.refusal.specs.declared.Refusal.{Refusal}
use Rattle.refusal.specs.Refusal.{status_in, value_in}
use Rattle.lines.specs.Line.{line_of, at}
use Rattle.jobfile.specs.File.{node_line, node_of}
use Rattle.buffer.specs.Layout.{starts_part}
use Rattle.buffer.specs.Views.{node_in}
use Rattle.buffer.specs.Kept.{SameOutside}
use Rattle.lines.specs.Places.{numbers_of, numbers_at, status_at}
use Rattle.jobhead.specs.ReadLines.{NodeRead, NodesRead}
use Rattle.lines.proofs.LinesLaws.{passed_more, read_all, read_stop, status_here, numbers_here}
use Rattle.buffer.proofs.KeptLaws.{kept_none, kept_both, node_kept}

-- the first n lines are read, from l to m
pub record NodesSoFar (s a : ℕ) (bytes l m : List ℕ) (n sum : ℕ) : Type 0 where
  pub passed : (j : ℕ) → j < n → status_at (node_line s a) bytes j ≡ 0
  pub number : sum ≡ sum_below n (λ j. at (numbers_at (node_line s a) bytes j) 3)
  pub small : sum ≤ n * 65536
  pub here : (j : ℕ) → j < n → node_in m j ≡ node_of (numbers_at (node_line s a) bytes j)
  pub within : n * 38 ≤ length bytes
  pub kept : SameOutside l m 0 starts_part

-- none is read yet
pub nodes_none : (s a : ℕ) (bytes l : List ℕ) → NodesSoFar s a bytes l l 0 0
nodes_none s a bytes l = record {
  passed = λ j h. absurd (not-suc-le-zero h);
  number = sym (sum_none (λ j. at (numbers_at (node_line s a) bytes j) 3));
  small = omega arith;
  here = λ j h. absurd (not-suc-le-zero h);
  within = omega arith;
  kept = kept_none l 0 starts_part;
}

module _ (s a : ℕ) (file : List ℕ) (start : ℕ) (l m k : List ℕ) (n sum : ℕ) (r : Result ℕ Refusal)
    (so : NodesSoFar s a (drop start file) l m n sum) (h : n < 512) (x : NodeRead s a n (drop (start + n * 38) file) m k r) where
  -- the line's status
  own_status : status_in r ≡ status_at (node_line s a) (drop start file) n
  own_status = status_here (node_line s a) file start n n [] (status_in r) (λ ns. refl) x.status

  -- its numbers
  own_numbers : numbers_of (line_of 80 6 (drop (start + n * 38) file)) ≡ numbers_at (node_line s a) (drop start file) n
  own_numbers = numbers_here (node_line s a) file start n

  -- what is left of the buffer
  all_kept : SameOutside l k 0 starts_part
  all_kept = kept_both l m k 0 starts_part (n * 8) (n * 8 + 8) so.kept x.kept (omega arith) (omega arith)

  -- one line more
  pub nodes_more : status_in r ≡ 0 → NodesSoFar s a (drop start file) l k (n + 1) (sum + value_in r)
  nodes_more z = record {
    passed = passed_more (node_line s a) (drop start file) n so.passed (sym own_status ∙ z);
    number =
        let q : value_in r ≡ at (numbers_at (node_line s a) (drop start file) n) 3 = x.number z ∙ ap (λ (ns : List ℕ). at ns 3) own_numbers in
        rw (so.number, q) (sym (sum_more n (λ j. at (numbers_at (node_line s a) (drop start file) j) 3)));
    small = omega (arith, so.small, x.small);
    here = λ j g.
        ⊎_elim
        (λ (q : j ≡ n). rw q (x.here z ∙ ap node_of own_numbers))
        (λ (q : j < n). node_kept m k (n * 8) (n * 8 + 8) x.kept j (inl (omega arith)) ∙ so.here j q)
        (eq-or-lt_of_le (le_of_suc-le-suc (rw (add-one n) at g)));
    within = omega (arith, x.within z, length-drop (start + n * 38) file, length-drop start file);
    kept = all_kept;
  }

  -- a line that does not pass
  pub nodes_stop : (c : ℕ) → n < c → (status_in r ≡ 0 → ⊥) → NodesRead s a c (drop start file) l k r
  nodes_stop c g q = record {
    lines = read_stop (node_line s a) (drop start file) c n (status_in r) g (lit< tt) so.passed own_status q;
    zero = λ z. x.zero q;
    number = λ z. absurd (q z);
    here = λ z. absurd (q z);
    kept = all_kept;
  }

-- all lines are read
pub nodes_end
    : (s a : ℕ) (bytes l m : List ℕ) (n sum c : ℕ) → n ≡ c → NodesSoFar s a bytes l m n sum → NodesRead s a c bytes l m (Ok sum)
nodes_end s a bytes l m n sum c e so = record {
  lines = read_all (node_line s a) bytes c n e (lit< tt) so.passed so.within;
  zero = λ z. absurd (z refl);
  number = λ z. so.number ∙ ap (λ (i : ℕ). sum_below i (λ j. at (numbers_at (node_line s a) bytes j) 3)) e;
  here = λ z j h. so.here j (omega arith);
  kept = so.kept;
}
