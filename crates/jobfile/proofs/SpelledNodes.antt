-- The P lines of the nodes: they are good lines where the nodes are within the job, and good P lines are those of the nodes that
-- they spell. Each node by itself.
-- Assumes nothing.
use Prim.Native.Nat.{ℕ, zero, suc, ◌+◌, ◌≤◌, ◌<◌}
use mathlib.Core.Path.{◌≡◌, refl, sym, ap, ◌∙◌}
use mathlib.Core.Bool.{true, false, true≢false}
use mathlib.Core.List.{List, [], ◌∷◌, ◌++◌, map}
use native.Mathlib.Omega.{arith}
use lib.Dec.{eqb}
use lib.Pow.{pow_mono}
use lib.ListN.{length, get_or}
use lib.Seq.{ext_get_or}
use borrow.Author.Tests.{eqb-false}
use Rattle.laws.specs.Bounded.{tab}
use Rattle.laws.specs.Bits.{has}
use Rattle.laws.proofs.Bounded.{length_tab, get_d_tab}
use Rattle.laws.proofs.Bits.{has_empty, below_says}
use Rattle.job.specs.Job.{Kind, plain, event, calls, kind_of, kind_number, value_number, Node, no_node, KindBelow}
use Rattle.job.proofs.KindLaws.{plain_below, event_below, call_below}
use Rattle.lines.specs.Line.{line, at, write_lines}
use Rattle.jobfile.specs.File.{node_line, node_of, mark, write_nodes}
use Rattle.jobfile.specs.Refusal.{NodeWithin}
use Rattle.lines.specs.Written.{Fits, GoodLines, good_none, Good-more}
use Rattle.jobfile.proofs.WithinLaws.{node_says}
use Rattle.jobfile.proofs.SpelledRules.{mark_read, mark_exact, mark_le}

-- ---- the lines of nodes

-- the numbers of a node's line
abbrev pub node_numbers : ℕ → Node → List ℕ
node_numbers i n = i ∷ kind_number n.kind ∷ value_number n.kind ∷ n.entry ∷ mark n.exit ∷ n.after ∷ []

-- the numbers of the P lines, from place i on
unfoldable pub node_lines : ℕ → List Node → List (List ℕ)
node_lines i [] = []
node_lines i (n ∷ ns) = node_numbers i n ∷ node_lines (suc i) ns

-- they are what is written
pub nodes_written : (i : ℕ) (ns : List Node) → write_nodes i ns ≡ write_lines 80 (node_lines i ns)
unfolding write_nodes node_lines write_lines
nodes_written i [] = refl
nodes_written i (n ∷ ns) = ap (λ (l : List ℕ). line 80 (node_numbers i n) ++ l) (nodes_written (suc i) ns)

-- one for each node
pub nodes_count : (i : ℕ) (ns : List Node) → length (node_lines i ns) ≡ length ns
unfolding node_lines
nodes_count i [] = refl
nodes_count i (n ∷ ns) = ap suc (nodes_count (suc i) ns)

-- a kind is read back
kind_read : (k : Kind) → kind_of (kind_number k) (value_number k) ≡ k
kind_read plain = refl
kind_read (event a) = refl
kind_read (calls false s) = refl
kind_read (calls true s) = refl

-- a node is read back
node_read : (i : ℕ) (n : Node) → node_of (node_numbers i n) ≡ n
node_read i n = rw (kind_read n.kind, mark_read n.exit)

-- the nodes are read back
pub nodes_read : (i : ℕ) (ns : List Node) → map node_of (node_lines i ns) ≡ ns
unfolding node_lines
nodes_read i [] = refl
nodes_read i (n ∷ ns) = rw (node_read i n, nodes_read (suc i) ns)

-- ---- what a good line says

-- a list by its elements
pub list_tab : (ns : List ℕ) → ns ≡ tab (length ns) (at ns)
list_tab ns =
    ext_get_or 0 ns (tab (length ns) (at ns)) (sym (length_tab (length ns) (at ns)))
    (λ i h. sym (get_d_tab (length ns) (at ns) i 0 h))

-- a kind and value within the job are those of the kind that they spell
kind_exact
    : (a k v : ℕ) → k ≤ 3 → (k ≡ 0 → v ≡ 0) → (k ≡ 1 → v < a) → (2 ≤ k → (q : ℕ) → has v q ≡ true → q < a)
    → (kind_number (kind_of k v) ≡ k) × (value_number (kind_of k v) ≡ v) × KindBelow a (kind_of k v)
kind_exact a zero v h none symbol set = (refl, sym (none refl), plain_below)
kind_exact a (suc zero) v h none symbol set = (refl, refl, event_below (symbol refl))
kind_exact a (suc (suc zero)) v h none symbol set = (refl, refl, call_below (set (omega arith)))
kind_exact a (suc (suc (suc zero))) v h none symbol set = (refl, refl, call_below (set (omega arith)))
kind_exact a (suc (suc (suc (suc k)))) v h none symbol set = absurd (omega arith)

-- a kind of the job is written as a kind and value within it
kind_within
    : (a : ℕ) (k : Kind) → KindBelow a k
    → (kind_number k ≤ 3) × (kind_number k ≡ 0 → value_number k ≡ 0) × (kind_number k ≡ 1 → value_number k < a)
    × (2 ≤ kind_number k → (q : ℕ) → has (value_number k) q ≡ true → q < a)
kind_within a plain b = (omega arith, λ e. refl, λ e. absurd (omega arith), λ e. absurd (omega arith))
kind_within a (event s) b = (omega arith, λ e. absurd (omega arith), λ e. b.point_below_holds s refl, λ e. absurd (omega arith))
kind_within a (calls false set) b = (omega arith, λ e. absurd (omega arith), λ e. absurd (omega arith), λ e. b.words_below)
kind_within a (calls true set) b = (omega arith, λ e. absurd (omega arith), λ e. absurd (omega arith), λ e. b.words_below)

-- ---- numbers of few digits

-- a set of at most 16 members
set_small : (w s : ℕ) → w ≤ 16 → ((q : ℕ) → has s q ≡ true → q < w) → s < 1000000
set_small w s h below = omega (arith, pow_mono h, (below_says w s).1 below)

-- a kind
kind_small : (k : Kind) → kind_number k < 1000000
kind_small plain = omega arith
kind_small (event a) = omega arith
kind_small (calls false s) = omega arith
kind_small (calls true s) = omega arith

-- its value
value_small : (a : ℕ) (k : Kind) → a ≤ 16 → KindBelow a k → value_number k < 1000000
value_small a plain h b = omega arith
value_small a (event s) h b = omega (arith, b.point_below_holds s refl)
value_small a (calls again set) h b = set_small a set h b.words_below

-- ---- good lines

-- a mark that is not 1 is 0
mark_none : (m : ℕ) → m ≤ 1 → eqb m 1 ≡ false → m ≡ 0
mark_none m h e = let ne = eqb-false m 1 e in omega (arith, ne)

-- the empty set has no members
pub none_below : (w q : ℕ) → has 0 q ≡ true → q < w
none_below w q t = absurd (true≢false (sym t ∙ has_empty q))

-- a node within a job of s states and a symbols
pub record NodeFits (s a : ℕ) (n : Node) : Type 0 where
  pub kind : KindBelow a n.kind
  pub entry : (q : ℕ) → has n.entry q ≡ true → q < s
  pub after : (q : ℕ) → has n.after q ≡ true → q < a
  pub none : n.exit ≡ false → n.after ≡ 0

module _ (s a : ℕ) where
  -- what the test of a P line says
  node_test
      : (i : ℕ) (before ns : List ℕ) → length ns ≡ 6 → (node_line s a).good i before ns ≡ true
      → (node_numbers i (node_of ns) ≡ ns) × NodeFits s a (node_of ns)
  unfolding tab
  node_test i before ns six t =
      let w = (node_says s a i before ns).0 t in
      let (kinds, values, below) = kind_exact a (at ns 1) (at ns 2) w.kind w.plain_value w.symbol w.call_set in
      let whole : ns ≡ at ns 0 ∷ at ns 1 ∷ at ns 2 ∷ at ns 3 ∷ at ns 4 ∷ at ns 5 ∷ [] =
      list_tab ns ∙ ap (λ (k : ℕ). tab k (at ns)) six in (
        rw (kinds, values, mark_exact (at ns 4) w.exit_mark, ← w.node) (sym whole),
        record {
          kind = below;
          entry = w.entry_set;
          after = w.after_set;
          none = λ (e : eqb (at ns 4) 1 ≡ false). w.no_after (mark_none (at ns 4) w.exit_mark e);
        },
      )

  -- good P lines are those of their nodes
  pub nodes_exact
      : {i : ℕ} {before : List ℕ} {ls : List (List ℕ)} → GoodLines (node_line s a) i before ls → node_lines i (map node_of ls) ≡ ls
  unfolding node_lines
  nodes_exact good_none = refl
  nodes_exact (Good-more {i} {before} {ns} {ls} count fit good more) =
      rw ((node_test i before ns count good).0, nodes_exact more)

  -- the nodes of good lines are within the job
  pub nodes_fit
      : {i : ℕ} {before : List ℕ} {ls : List (List ℕ)} → GoodLines (node_line s a) i before ls → (m : ℕ)
      → NodeFits s a (get_or (map node_of ls) m no_node)
  nodes_fit good_none m = record { kind = plain_below; entry = none_below s; after = none_below a; none = λ e. refl }
  nodes_fit (Good-more {i} {before} {ns} {ls} count fit good more) zero = (node_test i before ns count good).1
  nodes_fit (Good-more {i} {before} {ns} {ls} count fit good more) (suc m) = nodes_fit more m

  -- the numbers of a node within the job have few digits
  numbers_fit : (i : ℕ) (n : Node) → s ≤ 16 → a ≤ 16 → i < 1000000 → NodeFits s a n → Fits (node_numbers i n)
  numbers_fit i n hs ha h f zero = h
  numbers_fit i n hs ha h f (suc zero) = kind_small n.kind
  numbers_fit i n hs ha h f (suc (suc zero)) = value_small a n.kind ha f.kind
  numbers_fit i n hs ha h f (suc (suc (suc zero))) = set_small s n.entry hs f.entry
  numbers_fit i n hs ha h f (suc (suc (suc (suc zero)))) = omega (arith, mark_le n.exit)
  numbers_fit i n hs ha h f (suc (suc (suc (suc (suc zero))))) = set_small a n.after ha f.after
  numbers_fit i n hs ha h f (suc (suc (suc (suc (suc (suc k)))))) = omega arith

  -- the numbers of a node within the job are within it
  node_within : (i : ℕ) (n : Node) → NodeFits s a n → NodeWithin s a i (node_numbers i n)
  node_within i n f =
      let (kind, none, symbol, set) = kind_within a n.kind f.kind in
      record {
        node = refl;
        kind = kind;
        plain_value = none;
        symbol = symbol;
        call_set = set;
        entry_set = f.entry;
        exit_mark = mark_le n.exit;
        after_set = f.after;
        no_after = λ e. f.none (sym (mark_read n.exit) ∙ rw e);
      }

  -- the lines of nodes within the job are good
  pub nodes_good
      : (i : ℕ) (before : List ℕ) (ns : List Node) → s ≤ 16 → a ≤ 16 → i + length ns ≤ 1000000
      → ((m : ℕ) → NodeFits s a (get_or ns m no_node)) → GoodLines (node_line s a) i before (node_lines i ns)
  unfolding node_lines
  nodes_good i before [] hs ha short fit = good_none
  nodes_good i before (n ∷ ns) hs ha short fit =
      let f = fit 0 in
      Good-more {i = i} {before = before} {ns = node_numbers i n} refl
      (numbers_fit i n hs ha (omega arith) f)
      ((node_says s a i before (node_numbers i n)).1 (node_within i n f))
      (nodes_good (suc i) (node_numbers i n) ns hs ha (omega arith) (λ m. fit (suc m)))
