-- Where the bytes in front of the rows of pairs are as they were, so are the nodes and edges that they hold; where the class rows are, so
-- are the after words.
-- Assumes nothing.
use mathlib.Core.Path.{◌≡◌, sym, ◌∙◌, subst}
use mathlib.Core.Logic.{◌↔◌, inl}
use mathlib.Core.List.{List}
use Prim.Native.Nat.{ℕ, suc, ◌+◌, ◌*◌, ◌≤◌, ◌<◌}
use native.Mathlib.Nat.{lt_of_lt_of_le}
use native.Mathlib.Omega.{arith}
use Rattle.buffer.proofs.KeptLaws.{kept_fewer}
use Rattle.buffer.proofs.ClassRowLaws.{class_row_kept}
use Rattle.laws.specs.Bytes.{number_at}
use Rattle.laws.proofs.Bytes.{number_cong}
use Rattle.job.specs.Job.{Job, WellFormedJob}
use Rattle.buffer.specs.Layout.{starts_part, targets_part, pair_part}
use Rattle.buffer.specs.Views.{node_in, start_in, target_in, EdgeIn}
use Rattle.buffer.specs.Kept.{SameOutside, Kept}
use Rattle.buffer.specs.ClassRows.{ClassesKept}
use Rattle.tables.specs.Held.{EdgesWithin, Usable, JobHeld, AfterHeld}

-- the nodes and edges are as they were, and so is the length
abbrev pub FrontKept : List ℕ → List ℕ → Type 0
FrontKept = Kept (λ k. k < pair_part)

-- a store past them leaves them
pub front_kept : {l m : List ℕ} {i j : ℕ} → pair_part ≤ i → SameOutside l m i j → FrontKept l m
front_kept h s = kept_fewer (λ k g. inl (lt_of_lt_of_le g h)) s

module _ {l m : List ℕ} (s : FrontKept l m) where
  -- a number of two bytes
  number_front : (i : ℕ) → i + 2 ≤ pair_part → number_at 2 m i ≡ number_at 2 l i
  number_front i h = number_cong 2 m l i i (λ k g. s.outside (i + k) (omega arith))

  -- a node
  pub front_node : (n : ℕ) → n < 512 → node_in m n ≡ node_in l n
  unfolding node_in
  front_node n h =
      rw (
        number_front (n * 8) (omega arith),
        number_front (n * 8 + 2) (omega arith),
        number_front (n * 8 + 4) (omega arith),
        s.outside (n * 8 + 6) (omega arith),
        s.outside (n * 8 + 7) (omega arith),
      )

  -- where the edges of a node start
  front_start : (n : ℕ) → n ≤ 512 → start_in m n ≡ start_in l n
  unfolding start_in
  front_start n h = number_front (starts_part + n * 2) (omega arith)

  -- where an edge ends
  pub front_target : (i : ℕ) → i < 2048 → target_in m i ≡ target_in l i
  unfolding target_in
  front_target i h = number_front (targets_part + i * 2) (omega arith)

  -- an edge
  front_edge : (n k : ℕ) → n < 512 → EdgesWithin l n → EdgeIn l n k ↔ EdgeIn m n k
  front_edge n k h e = (
    λ d. record {
      index = d.index;
      first = rw (front_start n (omega arith)) d.first;
      last = rw (front_start (suc n) (omega arith)) d.last;
      target = front_target d.index (omega (arith, d.last, e.last)) ∙ d.target;
    },
    λ d.
        let f : start_in l n ≤ d.index = rw (front_start n (omega arith)) at d.first in
        let g : d.index < start_in l (suc n) = rw (front_start (suc n) (omega arith)) at d.last in
        record {
          index = d.index;
          first = f;
          last = g;
          target = sym (front_target d.index (omega (arith, g, e.last))) ∙ d.target;
        },
  )

  -- the bounds of a node's edges
  front_edges_within : (n : ℕ) → n < 512 → EdgesWithin l n → EdgesWithin m n
  front_edges_within n h e = record {
    first = rw (front_start n (omega arith)) e.first;
    last = rw (front_start (suc n) (omega arith)) e.last;
    targets = λ i f g.
        let f' : start_in l n ≤ i = rw (front_start n (omega arith)) at f in
        let g' : i < start_in l (suc n) = rw (front_start (suc n) (omega arith)) at g in
        rw (front_target i (omega (arith, g', e.last))) (e.targets i f' g');
  }

  -- the bounds of all
  pub front_usable : {table : List (List ℕ)} {states nodes : ℕ} → Usable l table states nodes → Usable m table states nodes
  front_usable u = record {
    long = omega (arith, s.long, u.long);
    few_states = u.few_states;
    few_nodes = u.few_nodes;
    cells = u.cells;
    edges = λ n h. front_edges_within n (lt_of_lt_of_le h u.few_nodes) (u.edges n h);
  }

  -- the job
  pub front_job
      : {j : Job} {table : List (List ℕ)} {finals states nodes : ℕ} → Usable l table states nodes
      → JobHeld j l table finals states nodes → JobHeld j m table finals states nodes
  front_job u h = record {
    formed = h.formed;
    states_are = h.states_are;
    finals_are = h.finals_are;
    nodes_are = h.nodes_are;
    cells = h.cells;
    node = λ n g. front_node n (lt_of_lt_of_le g u.few_nodes) ∙ h.node n g;
    edges = λ x y g.
        let few = lt_of_lt_of_le g u.few_nodes in
        let e = front_edge x y few (u.edges x g) in
        (λ d. e.0 ((h.edges x y g).0 d), λ d. (h.edges x y g).1 (e.1 d));
  }

module _ (l m : List ℕ) (s : ClassesKept l m) where
  -- the after words
  pub after_words_kept : {j : Job} {nodes : ℕ} → WellFormedJob j → nodes ≤ 512 → AfterHeld j l nodes → AfterHeld j m nodes
  after_words_kept f h a = record {
    sound = λ n p q g b d. a.sound n p q g b (rw (class_row_kept l m s n p (lt_of_lt_of_le g h) b) at d);
    whole = λ n p q g b e x w.
        rw (class_row_kept l m s n p (lt_of_lt_of_le g h) (lt_of_lt_of_le b f.rule.few_states)) (a.whole n p q g b e x w);
  }

-- a table that equals another will do
pub table_usable
    : {l : List ℕ} {table rule : List (List ℕ)} {states nodes : ℕ} → table ≡ rule → Usable l rule states nodes
    → Usable l table states nodes
table_usable {l} {table} {rule} {states} {nodes} e u = subst (λ (t : List (List ℕ)). Usable l t states nodes) (sym e) u
