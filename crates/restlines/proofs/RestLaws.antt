-- Laws of reading the lines past the J line: the answer of each way out, and the job that the buffer holds.
-- Assumes nothing.
use mathlib.Core.Path.{◌≡◌, refl, sym, ap, ◌∙◌}
use mathlib.Core.Bool.{true, false, cond}
use mathlib.Core.Logic.{◌⊎◌, inl, inr, by_cases}
use mathlib.Core.List.{List, [], ◌∷◌, map}
use Prim.Native.Nat.{ℕ, ◌+◌, ◌*◌, ◌≤◌, ◌<◌}
use native.Mathlib.Nat.{not-suc-le-zero}
use native.Mathlib.Decide.{dec_lt}
use native.Mathlib.Omega.{arith}
use lib.Dec.{lit<}
use lib.ListN.{length, drop, length-drop}
use lib.Seq.{drop-drop}
use borrow.Author.Tests.{eq-eqb, ne_eqb}
use Rattle.laws.specs.Bounded.{sum_below, tab}
use Rattle.laws.proofs.Bounded.{length_tab}
use Rattle.job.specs.Job.{Job}
use Rattle.jobhead.specs.Numbers.{HeadNumbers, refused_head}
use Rattle.std.specs.Prelude.{Result}
use Rattle.refusal.specs.declared.Refusal.{Refusal}
use Rattle.refusal.specs.Refusal.{status_in, value_in}
use Rattle.lines.specs.Line.{line_length, at}
use Rattle.lines.specs.Lines.{LineKind, Lines, lines, refused, lines_of}
use Rattle.jobfile.specs.File.{rule_line, node_line, edge_line, rule_of, node_of, edge_of, some_entry, Answer, accepted, turned, at_end, read_rest}
use Rattle.buffer.specs.Layout.{starts_part, pair_part, rule_part, marks_part}
use Rattle.buffer.specs.Views.{node_in, cell_in}
use Rattle.buffer.specs.Kept.{SameOutside}
use Rattle.jobhead.specs.Stored.{job_in}
use Rattle.lines.specs.Places.{numbers_at, refusal_in, LinesRead}
use Rattle.jobhead.specs.Reading.{SameRest, JobRead}
use Rattle.jobhead.specs.ReadLines.{RulesRead, NodesRead, EdgesRead}
use Rattle.lines.proofs.LinesLaws.{lines_all, passed_length}
use Rattle.buffer.proofs.KeptLaws.{kept_same, Kept-then, kept_fewer, outside_part, node_kept}
use Rattle.restlines.proofs.JobLaws.{map_tab, table_same, cell_past, nodes_same, entries_test, starts_ascend, edges_same}

-- ---- the buffer

-- what the R lines leave
pub rest_rule : (l m : List ℕ) → SameOutside l m rule_part marks_part → SameRest l m
rest_rule l m p = kept_fewer (λ k o. o.1) p

-- what the P or F lines leave after them
pub rest_then : (l m k : List ℕ) (i j : ℕ) → SameRest l m → SameOutside m k i j → j ≤ pair_part → SameRest l k
rest_then l m k i j p q h = Kept-then (λ x o. (o, outside_part (omega arith) h x o.0)) p q

-- nothing is stored
pub rest_same : (l : List ℕ) → SameRest l l
rest_same l = kept_same l

-- ---- the lines

-- lines that were refused
refused_is : (x : Lines) (k : ℕ) → k ≡ refusal_in x → (k ≡ 0 → ⊥) → x ≡ refused k
refused_is (lines ls rest) k e q = absurd (q e)
refused_is (refused j) k e q = ap refused (sym e)

-- lines that were read, with the rest by its place in the file
lines_are
    : (k : LineKind) (file : List ℕ) (start c : ℕ) → 0 < k.refusal → LinesRead k (drop start file) c 0
    → lines_of k c 0 [] (drop start file) ≡ lines (tab c (numbers_at k (drop start file))) (drop (start + c * line_length k.count) file)
lines_are k file start c h x =
    lines_all k (drop start file) c h (x.passed refl)
    ∙ ap (λ (b : List ℕ). lines (tab c (numbers_at k (drop start file))) b) (drop-drop (c * line_length k.count) start file)

-- ---- the answers

-- a refusal
pub turned_read : (answer : Answer) (k : ℕ) (l m : List ℕ) (r : HeadNumbers) → answer ≡ turned k → (k ≡ 0 → ⊥) → r ≡ refused_head k → SameRest l m → JobRead answer l m r
turned_read answer k l m r e q is p = record {
  exact = rw (is, e);
  held = λ j a. absurd (no_job answer k j e a);
  zeros = λ z. absurd (q (sym (ap (λ (h : HeadNumbers). h.refusal) is) ∙ z));
  starts = λ z. absurd (q (sym (ap (λ (h : HeadNumbers). h.refusal) is) ∙ z));
  ascend = λ z. absurd (q (sym (ap (λ (h : HeadNumbers). h.refusal) is) ∙ z));
  kept = p;
}
  where
    no_job : (answer : Answer) (k : ℕ) (j : Job) → answer ≡ turned k → answer ≡ accepted j → ⊥
    no_job answer k j a b = let z : ◌≡◌ {A = ℕ} 0 1 = cc in omega arith

-- bytes are left
end_more : (b : List ℕ) (j : Job) → 0 < length b → at_end b j ≡ turned 9
end_more [] j h = absurd (not-suc-le-zero h)
end_more (x ∷ b) j h = refl

-- none is left
end_none : (b : List ℕ) (j : Job) → length b ≡ 0 → at_end b j ≡ cond (some_entry j.nodes) (accepted j) (turned 10)
end_none [] j h = refl
end_none (x ∷ b) j h = absurd (omega arith)

module _ (s a n e : ℕ) (file : List ℕ) where
  -- the places where the R, P and F lines begin, and the end
  abbrev second : ℕ
  second = 26 + s * ((a + 2) * 6 + 2)

  abbrev third : ℕ
  third = second + n * 38

  abbrev fourth : ℕ
  fourth = third + e * 14

  abbrev answer : Answer
  answer = read_rest (s ∷ a ∷ n ∷ e ∷ []) (drop 26 file)

  abbrev rules : ℕ → List ℕ
  rules = numbers_at (rule_line s a) (drop 26 file)

  abbrev places : ℕ → List ℕ
  places = numbers_at (node_line s a) (drop second file)

  abbrev flow : ℕ → List ℕ
  flow = numbers_at (edge_line n) (drop third file)

  abbrev job : Job
  job = record { rule = rule_of s a (tab s rules); nodes = map node_of (tab n places); edges = map edge_of (tab e flow) }

  -- an R line that does not pass
  pub answer_rules : (k : ℕ) → LinesRead (rule_line s a) (drop 26 file) s k → (k ≡ 0 → ⊥) → answer ≡ turned k
  unfolding read_rest
  answer_rules k x q = rw (refused_is (lines_of (rule_line s a) s 0 [] (drop 26 file)) k x.refusal q)

  module _ (x1 : LinesRead (rule_line s a) (drop 26 file) s 0) where
    -- the R lines, and the bytes after them
    rules_are : lines_of (rule_line s a) s 0 [] (drop 26 file) ≡ lines (tab s rules) (drop second file)
    rules_are = lines_are (rule_line s a) file 26 s (lit< tt) x1

    -- a P line that does not pass
    pub answer_nodes : (k : ℕ) → LinesRead (node_line s a) (drop second file) n k → (k ≡ 0 → ⊥) → answer ≡ turned k
    unfolding read_rest
    answer_nodes k x q = rw (rules_are, refused_is (lines_of (node_line s a) n 0 [] (drop second file)) k x.refusal q)

    module _ (x2 : LinesRead (node_line s a) (drop second file) n 0) where
      -- the P lines, and the bytes after them
      nodes_are : lines_of (node_line s a) n 0 [] (drop second file) ≡ lines (tab n places) (drop third file)
      nodes_are = lines_are (node_line s a) file second n (lit< tt) x2

      -- an F line that does not pass
      pub answer_edges : (k : ℕ) → LinesRead (edge_line n) (drop third file) e k → (k ≡ 0 → ⊥) → answer ≡ turned k
      unfolding read_rest
      answer_edges k x q = rw (rules_are, nodes_are, refused_is (lines_of (edge_line n) e 0 [] (drop third file)) k x.refusal q)

      module _ (x3 : LinesRead (edge_line n) (drop third file) e 0) where
        -- the F lines, and the bytes after them
        edges_are : lines_of (edge_line n) e 0 [] (drop third file) ≡ lines (tab e flow) (drop fourth file)
        edges_are = lines_are (edge_line n) file third e (lit< tt) x3

        -- the answer rests on what follows and on the entries
        answer_end : answer ≡ at_end (drop fourth file) job
        unfolding read_rest
        answer_end = rw (rules_are, nodes_are, edges_are)

        -- bytes after the last line
        pub answer_more : fourth < length file → answer ≡ turned 9
        answer_more h = answer_end ∙ end_more (drop fourth file) job (rw length-drop (omega arith))

        -- no entry
        pub answer_entry : (number : ℕ) → length file ≤ fourth → number ≡ sum_below n (λ j. at (places j) 3) → number ≡ 0 → answer ≡ turned 10
        answer_entry number h x z =
            let t : some_entry (map node_of (tab n places)) ≡ false = entries_test places n ∙ rw (eq-eqb (sum_below n (λ j. at (places j) 3)) 0 (sym x ∙ z)) in
            answer_end ∙ end_none (drop fourth file) job (rw length-drop (omega arith)) ∙ rw t

        -- a job
        pub answer_job
            : (number : ℕ) → length file ≤ fourth → number ≡ sum_below n (λ j. at (places j) 3) → (number ≡ 0 → ⊥) → answer ≡ accepted job
        answer_job number h x q =
            let t : some_entry (map node_of (tab n places)) ≡ true =
            entries_test places n ∙ rw (ne_eqb (sum_below n (λ j. at (places j) 3)) 0 (λ z. q (x ∙ z))) in
            answer_end ∙ end_none (drop fourth file) job (rw length-drop (omega arith)) ∙ rw t

  -- ---- the job in the buffer

  module _ (l m1 m2 m3 : List ℕ) (r1 r2 : Result ℕ Refusal) (r3 : ℕ) (ha : a ≤ 16) (hn : n ≤ 512)
      (x1 : RulesRead s a (drop 26 file) l m1 r1) (x2 : NodesRead s a n (drop second file) m1 m2 r2) (x3 : EdgesRead n e (drop third file) m2 m3 r3)
      (z1 : status_in r1 ≡ 0) (z2 : status_in r2 ≡ 0) (z3 : r3 ≡ 0) where
    -- the rule is as the R lines left it
    cell_is : (q c : ℕ) → cell_in m3 q c ≡ cell_in m1 q c
    unfolding cell_in
    cell_is q c =
        x3.kept.outside (rule_part + q * 16 + c) (inr (omega arith)) ∙ x2.kept.outside (rule_part + q * 16 + c) (inr (omega arith))

    long_rule : (q : ℕ) → q < s → length (rules q) ≡ a + 2
    long_rule q h = passed_length (rule_line s a) (drop 26 file) q (x1.lines.passed z1 q h)

    -- the nodes are as the P lines left them
    node_is : (j : ℕ) → j < n → node_in m3 j ≡ node_of (places j)
    node_is j h = node_kept m2 m3 starts_part pair_part x3.kept j (inl (omega arith)) ∙ x2.here z2 j h

    -- the numbers beside the job
    abbrev numbers : HeadNumbers
    numbers = record { refusal = 0; states = s; symbols = a; finals = value_in r1; nodes = n; edges = e }

    -- the buffer holds the job
    job_is : job_in m3 numbers ≡ job
    job_is =
        rw (
          table_same m3 s a rules ha long_rule (λ q c h g. cell_is q c ∙ x1.here z1 q c h g),
          x1.number z1,
          nodes_same m3 n places node_is,
          edges_same m3 n e flow (x3.targets z3) (x3.starts z3) (x3.below z3) (x3.above z3) (x3.sources z3),
        )

    -- the bytes past the job's parts are as before
    pub all_kept : SameRest l m3
    all_kept = rest_then l m2 m3 starts_part pair_part (rest_then l m1 m2 0 starts_part (rest_rule l m1 x1.kept) x2.kept (omega arith)) x3.kept (omega arith)

    -- what an accepted job leaves
    pub job_read : answer ≡ accepted job → JobRead answer l m3 numbers
    job_read is = record {
      exact = rw is (rw (x1.number z1, map_tab node_of places n, length_tab n (λ k. node_of (places k)), map_tab edge_of flow e, length_tab e (λ k. edge_of (flow k))));
      held = λ j x. job_is ∙ same_job answer job j is x;
      zeros = λ z q c g h o. zero_cell q c g h o;
      starts = λ z j h. x3.starts z3 j h;
      ascend = λ z j h. starts_ascend m3 n e flow (x3.targets z3) (x3.starts z3) (x3.below z3) (x3.above z3) (x3.sources z3) j h;
      kept = all_kept;
    }
      where
        same_job : (x : Answer) (i j : Job) → x ≡ accepted i → x ≡ accepted j → i ≡ j
        same_job x i j p q = cc

        zero_cell : (q c : ℕ) → q < 16 → c < 16 → (s ≤ q) ⊎ (a ≤ c) → cell_in m3 q c ≡ 0
        zero_cell q c g h (inl o) = cell_is q c ∙ x1.past z1 q c o g h
        zero_cell q c g h (inr o) =
            by_cases (dec_lt q s)
            (λ (p : q < s). cell_is q c ∙ x1.here z1 q c p h ∙ cell_past (rules q) a c (long_rule q p) o)
            (λ p. cell_is q c ∙ x1.past z1 q c (omega arith) g h)
