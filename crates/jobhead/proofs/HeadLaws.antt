-- Laws of the J line, in the shape of the code that reads it.
-- Assumes nothing.
use mathlib.Core.Path.{◌≡◌, sym, ap, ◌∙◌}
use mathlib.Core.Bool.{Bool, true, false, cond}
use mathlib.Core.List.{List, []}
use Prim.Native.Nat.{ℕ, ◌<◌}
use native.Mathlib.Omega.{arith}
use native.Mathlib.Nat.{not-suc-le-zero}
use lib.Dec.{lit<}
use lib.ListN.{length}
use Rattle.laws.specs.Bounded.{tab_from, tab}
use Rattle.lines.specs.Inner.{DueRead}
use Rattle.lines.specs.Line.{line_of}
use Rattle.jobfile.specs.File.{good_head, head_line}
use Rattle.lines.specs.Places.{numbers_of, due_at, numbers_at, before_at, status_at}
use Rattle.jobhead.specs.Numbers.{refused_head}
use Rattle.jobhead.specs.ReadLines.{head_numbers, head_in, HeadRead}
use Rattle.jobfile.proofs.WithinLaws.{head_says}
use Rattle.lines.proofs.LinesLaws.{lines_all, lines_stop, due_stops, due_tested, due_whole, due_long}

-- a refusal of the J line
head_refused
    : (file : List ℕ) (k : ℕ) → k ≡ status_at head_line file 0 → (k ≡ 0 → ⊥) → HeadRead file (refused_head k)
head_refused file k e q =
    record {
      exact = sym (ap head_in (lines_stop head_line file 1 0 (lit< tt) (lit< tt) (λ j l. absurd (not-suc-le-zero l)) (λ z. q (e ∙ z))) ∙ ap refused_head (sym e));
      passed = λ z. absurd (q z);
      some_state = λ z. absurd (q z);
      few_states = omega arith;
      some_symbol = λ z. absurd (q z);
      few_symbols = omega arith;
      few_nodes = omega arith;
      few_edges = omega arith;
      within = λ z. absurd (q z);
    }

module _ (file : List ℕ) {l ns : List ℕ} {r : ℕ} (e : DueRead (line_of 74 4 file) 4 l ns r) where
  -- nothing, or no line
  pub head_stop : (r ≡ 0 → ⊥) → HeadRead file (refused_head r)
  unfolding status_at due_at before_at
  head_stop q = head_refused file r (due_stops head_line 0 [] file e q) q

  module _ (z : r ≡ 0) (four : length l ≡ 4) where
    -- the line's numbers
    numbers_are : ns ≡ numbers_of (line_of 74 4 file)
    numbers_are = due_whole head_line 0 [] file e z four

    -- the status of the line, by the test of its numbers
    head_tested : (t : Bool) → good_head 0 [] ns ≡ t → cond t 0 5 ≡ status_at head_line file 0
    unfolding status_at due_at before_at
    head_tested t g = due_tested head_line 0 [] file e z t numbers_are g

    -- numbers outside their limits
    pub head_fails : good_head 0 [] ns ≡ false → HeadRead file (refused_head 5)
    head_fails g = head_refused file 5 (head_tested false g) (λ q. absurd (omega arith))

    -- numbers within them
    pub head_found : good_head 0 [] ns ≡ true → HeadRead file (head_numbers ns)
    unfolding numbers_at due_at tab tab_from
    head_found g =
        let w = (head_says 0 [] ns).0 g in
        let p : status_at head_line file 0 ≡ 0 = sym (head_tested true g) in
        record {
          exact = ap head_numbers numbers_are ∙ sym (ap head_in (lines_all head_line file 1 (lit< tt) (λ j h. rw (only j h) p)));
          passed = λ q. p;
          some_state = λ q. w.some_state;
          few_states = w.few_states;
          some_symbol = λ q. w.some_symbol;
          few_symbols = w.few_symbols;
          few_nodes = w.few_nodes;
          few_edges = w.few_edges;
          within = λ q. due_long head_line 0 [] file e z;
        }
      where
        only : (j : ℕ) → j < 1 → j ≡ 0
        only j h = omega arith
