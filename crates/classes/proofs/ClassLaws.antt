-- Laws of the growth of the class rows, in the shape of the code.
-- Assumes nothing.
use mathlib.Core.Path.{◌≡◌, refl, sym, ap, subst, ◌∙◌}
use mathlib.Core.Logic.{inl, inr, ⊎_elim, ◌↔◌, by_cases, ◌≢◌}
use mathlib.Core.Bool.{true, false, not, true≢false, false≢true, and-eq-true_iff}
use mathlib.Core.List.{List}
use Prim.Native.Nat.{ℕ, suc, ◌+◌, ◌-◌, ◌*◌, ◌%◌, ◌≤◌, ◌<◌}
use native.Mathlib.Nat.{mod-eq_of_lt}
use native.Mathlib.Decide.{ℕ_discrete}
use native.Mathlib.Omega.{arith}
use lib.Dec.{ltb}
use lib.Bits.{bit_or}
use lib.ListN.{length, get_or}
use borrow.Author.Tests.{lt-ltb, ltb-true}
use Rattle.laws.specs.Bounded.{tab}
use Rattle.laws.specs.Bits.{has}
use Rattle.laws.proofs.Tests.{passes_or_fails, or_passes, or_left, or_right}
use Rattle.laws.proofs.Bits.{has_or, has_empty}
use Rattle.laws.proofs.Bounded.{length_tab, get_d_tab}
use Rattle.automaton.specs.Automaton.{cell, next, final}
use Rattle.job.specs.Job.{Point, no_point, point, point_of, call_set, is_point, is_event, Node, Job, node_at, leads}
use Rattle.job.specs.Walk.{past}
use Rattle.job.specs.Plan.{full, ApartAt}
use Rattle.job.proofs.Pairs.{told_splits, apart_now, apart_moved, apart_told}
use Rattle.job.proofs.Bounds.{Within, is_entry_node}
use Rattle.job.proofs.Rules.{apart_true, apart_false}
use Rattle.job.proofs.KindLaws.{point_some, takes_edge, begins_after, reports_word, event_small}
use Rattle.job.proofs.Nodes.{BeforeNode, before_silent, before_event, event_splits}
use Rattle.job.proofs.Nodes.{NodeBackwards, node_backwards, before_apart, word_apart}
use Rattle.buffer.specs.Layout.{starts_part, targets_part, class_part, found_part, class_size, class_place}
use Rattle.buffer.specs.Views.{node_in, start_in, target_in, class_row_in, EdgeIn, HeldApart}
use Rattle.buffer.proofs.KeptLaws.{kept_none, kept_both, number_kept}
use Rattle.buffer.specs.ClassRows.{OnlyClasses, apart_left, ApartGrown}
use Rattle.buffer.proofs.ClassRowLaws.{only_classes}
use Rattle.tables.specs.Rows.{CellsBelow, unlike_states, preimage_of}
use Rattle.tables.specs.Held.{EdgesWithin, Usable, JobHeld, AfterHeld}
use Rattle.classes.specs.Backwards.{apart_by, word_row, rows_of, ClassesFound}
use Rattle.classes.specs.Classes.{before_point, before_row, ApartNext, NextRow, ApartBack, ClosedBack, AllApart, NodeGrown, ClassesGrown}
use Rattle.classes.specs.Returns.{AfterWhole, ReturnsClosed, ClassesReturned, ClassesTurned}
use Rattle.tables.proofs.RowLaws.{has_preimage}
use Rattle.classes.proofs.GrownLaws.{RowsGrown, rows_more}
use Rattle.classes.proofs.WordLaws.{has_word_row, word_row_same, apart_by_cases, apart_by_unlike, apart_by_rows}
use Rattle.classes.proofs.AfterLaws.{node_before}

-- ---- what a store in the class rows leaves as it was

module _ {l m : List ℕ} (s : OnlyClasses l m) where
  -- where the edges of a node start
  pub start_kept : (n : ℕ) → n ≤ 512 → start_in m n ≡ start_in l n
  unfolding start_in
  start_kept n h = number_kept l m class_part found_part s (starts_part + n * 2) (inl (omega arith))

  -- where an edge ends
  pub target_kept : (i : ℕ) → i < 2048 → target_in m i ≡ target_in l i
  unfolding target_in
  target_kept i h = number_kept l m class_part found_part s (targets_part + i * 2) (inl (omega arith))

  -- an edge
  pub edge_kept : (n k : ℕ) → n < 512 → EdgesWithin l n → EdgeIn l n k ↔ EdgeIn m n k
  edge_kept n k h w = (
    λ e. record {
      index = e.index;
      first = omega (arith, e.first, start_kept n (omega arith));
      last = omega (arith, e.last, start_kept (suc n) h);
      target = target_kept e.index (omega (arith, e.last, w.last)) ∙ e.target;
    },
    λ e.
        let last : e.index < start_in l (suc n) = omega (arith, e.last, start_kept (suc n) h) in
        record {
          index = e.index;
          first = omega (arith, e.first, start_kept n (omega arith));
          last = last;
          target = sym (target_kept e.index (omega (arith, w.last))) ∙ e.target;
        },
  )

  -- the bounds of a node's edges
  pub edges_within_kept : (n : ℕ) → n < 512 → EdgesWithin l n → EdgesWithin m n
  edges_within_kept n h w = record {
    first = omega (arith, w.first, start_kept n (omega arith));
    last = omega (arith, w.last, start_kept (suc n) h);
    targets = λ i a b.
        let low : start_in l n ≤ i = omega (arith, start_kept n (omega arith)) in
        let high : i < start_in l (suc n) = omega (arith, start_kept (suc n) h) in
        omega (arith, w.targets i low high, target_kept i (omega (arith, w.last)));
  }

  -- the bounds of all
  pub usable_kept : {table : List (List ℕ)} {states nodes : ℕ} → Usable l table states nodes → Usable m table states nodes
  usable_kept u = record {
    long = omega (arith, u.long, s.long);
    few_states = u.few_states;
    few_nodes = u.few_nodes;
    cells = u.cells;
    edges = λ n h. edges_within_kept n (omega (arith, u.few_nodes)) (u.edges n h);
  }

  -- the job
  pub job_kept
      : {j : Job} {table : List (List ℕ)} {finals states nodes : ℕ} → Usable l table states nodes
      → JobHeld j l table finals states nodes → JobHeld j m table finals states nodes
  job_kept u h = record {
    formed = h.formed;
    states_are = h.states_are;
    finals_are = h.finals_are;
    nodes_are = h.nodes_are;
    cells = h.cells;
    node = λ n b. node_before l m s n (omega (arith, u.few_nodes)) ∙ h.node n b;
    edges = λ x y b.
        let same = edge_kept x y (omega (arith, u.few_nodes)) (u.edges x b) in
        (λ e. same.0 ((h.edges x y b).0 e), λ e. (h.edges x y b).1 (same.1 e));
  }

-- ---- the row before a node

-- at a shadow
pub before_shadow
    : (table : List (List ℕ)) (finals states : ℕ) (work : List ℕ) (m p a state row unlike r : ℕ) → is_event (node_in work m).kind ≡ true
    → ((x : ℕ) → point_of (node_in work m).kind ≡ point x → a ≡ x % 16) → state ≡ cell table p a → row ≡ class_row_in work m state
    → unlike ≡ unlike_states finals state → r ≡ preimage_of table states a (bit_or row unlike) → r ≡ before_row table finals states work m p
unfolding before_row
before_shadow table finals states work m p a state row unlike r is symbol to row_is unlike_is r_is =
    go (point_of (node_in work m).kind) is symbol
  where
    go : (k : Point) → is_point k ≡ true → ((x : ℕ) → k ≡ point x → a ≡ x % 16) → r ≡ before_point table finals states (class_row_in work m) p k
    go no_point e f = absurd (false≢true e)
    go (point x) e f = rw (← f x refl, ← to, ← row_is, ← unlike_is) r_is

-- at any other node
pub before_other
    : (table : List (List ℕ)) (finals states : ℕ) (work : List ℕ) (m p r : ℕ) → is_event (node_in work m).kind ≡ false
    → r ≡ class_row_in work m p → r ≡ before_row table finals states work m p
unfolding before_row
before_other table finals states work m p r is r_is = go (point_of (node_in work m).kind) is
  where
    go : (k : Point) → is_point k ≡ false → r ≡ before_point table finals states (class_row_in work m) p k
    go no_point e = r_is
    go (point x) e = absurd (true≢false e)

-- ---- the row of the successors

-- out is right for the edges below i
pub record NextSoFar (table : List (List ℕ)) (finals states : ℕ) (work : List ℕ) (n p i out : ℕ) : Type 0 where
  pub first : start_in work n ≤ i
  pub here
      : (x q : ℕ) → start_in work n ≤ x → x < i → has (before_row table finals states work (target_in work x) p) q ≡ true → has out q ≡ true
  pub only : (q : ℕ) → has out q ≡ true → ApartNext table finals states work n p q

-- no edge is passed
pub next_start
    : (table : List (List ℕ)) (finals states : ℕ) (work : List ℕ) (n p i : ℕ) → i ≡ start_in work n
    → NextSoFar table finals states work n p i 0
next_start table finals states work n p i e = record {
  first = omega arith;
  here = λ x q a b h. absurd (omega arith);
  only = λ q h. absurd (true≢false (sym h ∙ has_empty q));
}

-- one edge more
pub next_more
    : (table : List (List ℕ)) (finals states : ℕ) (work : List ℕ) (n p i out m row : ℕ) → NextSoFar table finals states work n p i out
    → i < start_in work (suc n) → m ≡ target_in work i → row ≡ before_row table finals states work m p
    → NextSoFar table finals states work n p (i + 1) (bit_or out row)
next_more table finals states work n p i out m row s h m_is row_is = record {
  first = omega (arith, s.first);
  here = λ x q a b f.
      by_cases (ℕ_discrete x i)
      (λ (e : x ≡ i).
      has_or out row q
      ∙ or_right (has out q) (has row q) (rw (row_is, m_is) (subst (λ (y : ℕ). has (before_row table finals states work (target_in work y) p) q ≡ true) e f)))
      (λ (ne : x ≢ i). has_or out row q ∙ or_left (has out q) (has row q) (s.here x q a (omega arith) f));
  only = λ q f.
      ⊎_elim
      (λ (e : has out q ≡ true). s.only q e)
      (λ (e : has row q ≡ true). record {
        to = m;
        edge = record { index = i; first = s.first; last = h; target = sym m_is };
        apart = ap (λ (y : ℕ). has y q) (sym row_is) ∙ e;
      })
      (or_passes (has out q) (has row q) (sym (has_or out row q) ∙ f));
}

-- all edges are passed
pub next_end
    : (table : List (List ℕ)) (finals states : ℕ) (work : List ℕ) (n p i out : ℕ) → NextSoFar table finals states work n p i out
    → start_in work (suc n) ≤ i → NextRow table finals states work n p out
next_end table finals states work n p i out s h q = (
  s.only q,
  λ e.
      s.here e.edge.index q e.edge.first (omega (arith, e.edge.last))
      (rw e.edge.target e.apart),
)

-- ---- steps back tell apart

-- the full monitor on both sides
abbrev pub ApartPast : Job → ℕ → ℕ → ℕ → Type 0
ApartPast j n p q = ApartAt j full full (past n) p q

module _
    {j : Job} {work : List ℕ} {table : List (List ℕ)} {finals states nodes : ℕ} (h : JobHeld j work table finals states nodes)
    (below : CellsBelow table) where
  -- the cells of two states, as the rule has them
  module _ (a p q : ℕ) (ha : a < 16) (hp : p < 16) (hq : q < 16) where
    -- a pair that is led to
    pub pair_next : (P : ℕ → ℕ → Type 0) → P (cell table p a) (cell table q a) → P (next j.rule p a) (next j.rule q a)
    pair_next P x =
        subst (λ (y : ℕ). P y (next j.rule q a)) (h.cells p a hp ha) (subst (λ (y : ℕ). P (cell table p a) y) (h.cells q a hq ha) x)

    -- and back
    pub pair_cells : (P : ℕ → ℕ → Type 0) → P (next j.rule p a) (next j.rule q a) → P (cell table p a) (cell table q a)
    pair_cells P x =
        subst (λ (y : ℕ). P y (cell table q a)) (sym (h.cells p a hp ha))
        (subst (λ (y : ℕ). P (next j.rule p a) y) (sym (h.cells q a hq ha)) x)

    -- an alarm from one of them alone
    pub differ_next
        : has finals (cell table p a) ≡ not (has finals (cell table q a))
        → final j.rule (next j.rule p a) ≡ not (final j.rule (next j.rule q a))
    differ_next d = pair_next (λ x y. final j.rule x ≡ not (final j.rule y)) (rw h.finals_are at d)

    -- and back
    pub differ_cells
        : final j.rule (next j.rule p a) ≡ not (final j.rule (next j.rule q a))
        → has finals (cell table p a) ≡ not (has finals (cell table q a))
    differ_cells d = rw h.finals_are (pair_cells (λ x y. final j.rule x ≡ not (final j.rule y)) d)

  -- what a symbol of a call word tells apart
  pub apart_by_call
      : (n : ℕ) (rows : ℕ → ℕ) (s p q : ℕ) → s < 16 → p < 16 → q < 16 → has (call_set (node_at j n).kind) s ≡ true
      → ((x y : ℕ) → x < 16 → has (rows x) y ≡ true → ApartPast j n x y) → apart_by table finals rows s p q ≡ true → ApartPast j n p q
  apart_by_call n rows s p q hs hp hq m rest t =
      ⊎_elim
      (λ (e : has (rows (cell table p s)) (cell table q s) ≡ true).
      apart_told (reports_word n s m)
      (pair_next s p q hs hp hq (ApartPast j n) (rest (cell table p s) (cell table q s) (below p s hp hs) e)))
      (λ (d : has finals (cell table p s) ≡ not (has finals (cell table q s))).
      apart_now (told_splits (reports_word n s m) (differ_next s p q hs hp hq d)))
      (apart_by_cases table finals rows s p q (below q s hq hs) t)

  -- what the row before a node tells apart
  pub before_row_sound
      : (w : List ℕ) (n p q : ℕ) → node_in w n ≡ node_at j n → p < 16 → states ≤ 16
      → ((x y : ℕ) → x < 16 → HeldApart w n x y → ApartPast j n x y) → has (before_row table finals states w n p) q ≡ true
      → BeforeNode j full full (λ m. ApartPast j m) n p q
  unfolding before_row
  before_row_sound w n p q same hp few rest t = go (point_of (node_at j n).kind) refl (rw same at t)
    where
      go
          : (k : Point) → point_of (node_at j n).kind ≡ k → has (before_point table finals states (class_row_in w n) p k) q ≡ true
          → BeforeNode j full full (λ m. ApartPast j m) n p q
      go no_point e f = before_silent e (rest p q hp f)
      go (point a) e f =
          let small = event_small n h.formed e in
          let is : a % 16 ≡ a = mod-eq_of_lt small in
          let both =
          (and-eq-true_iff (ltb q states) (apart_by table finals (class_row_in w n) a p q)).0
          (sym
          (has_preimage table states a (bit_or (class_row_in w n (cell table p a)) (unlike_states finals (cell table p a))) q)
          ∙ rw is at f) in
          let hq : q < 16 = omega (arith, ltb-true q states both.0) in
          ⊎_elim
          (λ (x : has (class_row_in w n (cell table p a)) (cell table q a) ≡ true).
          before_event e
          (pair_next a p q small hp hq (ApartPast j n) (rest (cell table p a) (cell table q a) (below p a hp small) x)))
          (λ (d : has finals (cell table p a) ≡ not (has finals (cell table q a))). event_splits e (differ_next a p q small hp hq d))
          (apart_by_cases table finals (class_row_in w n) a p q (below q a hq small) both.1)

  -- the row before a node has what is told apart there by the pairs that are held
  pub before_row_whole
      : (w : List ℕ) (n p q : ℕ) → node_in w n ≡ node_at j n → p < 16 → q < states → states ≤ 16
      → BeforeNode j full full (HeldApart w) n p q → has (before_row table finals states w n p) q ≡ true
  unfolding before_row
  before_row_whole w n p q same hp hq few t = rw same (go t)
    where
      -- the row, by the point of the node
      Row : Point → Type 0
      Row k = has (before_point table finals states (class_row_in w n) p k) q ≡ true

      silent : (k : Point) → k ≡ no_point → HeldApart w n p q → Row k
      silent no_point s f = f
      silent (point a) s f = absurd (point_some refl s)

      at_event : (a : ℕ) → a < 16 → apart_by table finals (class_row_in w n) a p q ≡ true → Row (point a)
      at_event a small f =
          rw (mod-eq_of_lt small)
          (has_preimage table states a (bit_or (class_row_in w n (cell table p a)) (unlike_states finals (cell table p a))) q
          ∙ (and-eq-true_iff (ltb q states) (apart_by table finals (class_row_in w n) a p q)).1 (lt-ltb q states hq, f))

      go : BeforeNode j full full (HeldApart w) n p q → Row (point_of (node_at j n).kind)
      go (before_silent s f) = silent (point_of (node_at j n).kind) s f
      go (before_event {a = a} e f) =
          let small = event_small n h.formed e in
          subst Row (sym e)
          (at_event a small (apart_by_rows table finals (class_row_in w n) a p q (pair_cells a p q small hp (omega arith) (HeldApart w n) f)))
      go (event_splits {a = a} e d) =
          let small = event_small n h.formed e in
          subst Row (sym e)
          (at_event a small
          (apart_by_unlike table finals (class_row_in w n) a p q (below q a (omega arith) small) (differ_cells a p q small hp (omega arith) d)))

  -- what given rows and the rows of a buffer tell apart past node n, some continuation does
  pub back_sound
      : (rows : ℕ → ℕ) (w : List ℕ) (n set : ℕ) → n < nodes → nodes ≤ 512 → states ≤ 16 → EdgesWithin work n
      → set ≡ call_set (node_in work n).kind → OnlyClasses work w → ((x y : ℕ) → x < 16 → has (rows x) y ≡ true → ApartPast j n x y)
      → ((k x y : ℕ) → k < nodes → x < 16 → HeldApart w k x y → ApartPast j k x y) → (p q : ℕ) → p < 16
      → ApartBack table finals states rows w n set p q → ApartPast j n p q
  back_sound rows w n set hn many few within set_is kept given all p q hp (inl t) =
      let m = (has_word_row table finals states rows set p q).0 t in
      apart_by_call n rows m.1 p q m.2 hp (omega (arith, m.0))
      (subst (λ (x : ℕ). has x m.1 ≡ true) (set_is ∙ ap (λ (y : Node). call_set y.kind) (h.node n hn)) m.3) given m.4
  back_sound rows w n set hn many few within set_is kept given all p q hp (inr t) =
      let to_edge : leads j n t.to ≡ true =
      (h.edges n t.to hn).1 ((edge_kept kept n t.to (omega arith) within).1 t.edge) in
      let there : t.to < nodes = omega (arith, (h.formed.edges n t.to to_edge).1, h.nodes_are) in
      apart_moved (takes_edge to_edge)
      (before_apart
      (before_row_sound w t.to p q (node_before work w kept t.to (omega arith) ∙ h.node t.to there) hp few
      (λ x y. all t.to x y there) t.apart))

-- ---- the rows of one node

-- past the nodes of the job, some continuation tells the pair apart
abbrev pub ApartIn : Job → ℕ → ℕ → ℕ → Type 0
ApartIn j n p q = n < length j.nodes → ApartPast j n p q

-- the pairs that one turn adds at node n, whose rows were read in the buffer l
abbrev pub BackPairs : List (List ℕ) → ℕ → ℕ → List ℕ → ℕ → ℕ → List ℕ → ℕ → ℕ → Type 0
BackPairs table finals states l n set w p q = ApartBack table finals states (class_row_in l n) w n set p q

-- rows that were read are sixteen
pub rows_long : {rows : List ℕ} (f : ℕ → ℕ) → rows ≡ tab 16 f → length rows ≡ 16
rows_long f e = rw e (length_tab 16 f)

-- what they and a symbol of the set tell apart
pub read_words
    : (table : List (List ℕ)) (finals states : ℕ) (l rows : List ℕ) (n set p words : ℕ) → CellsBelow table → p < 16
    → rows ≡ tab 16 (class_row_in l n) → words ≡ word_row table finals states (rows_of rows) set p
    → words ≡ word_row table finals states (class_row_in l n) set p
read_words table finals states l rows n set p words below hp is e =
    e
    ∙ word_row_same table finals states (rows_of rows) (class_row_in l n) set p below hp
    (λ x h. ap (λ (r : List ℕ). get_or r x 0) is ∙ get_d_tab 16 (class_row_in l n) x 0 h)

-- one row more
pub node_more
    : (table : List (List ℕ)) (finals states : ℕ) (l m k : List ℕ) (n set grown p words nexts count : ℕ) → n < 512 → p < 16
    → RowsGrown ApartIn (BackPairs table finals states l n set) l m n grown p
    → words ≡ word_row table finals states (class_row_in l n) set p → NextRow table finals states m n p nexts
    → ApartGrown m k n p (bit_or words nexts) count → RowsGrown ApartIn (BackPairs table finals states l n set) l k n (grown + count) (p + 1)
node_more table finals states l m k n set grown p words nexts count hn hp s words_is nexts_are g =
    rows_more ApartIn (BackPairs table finals states l n set) l m k n grown p (bit_or words nexts) count hn hp s members g
  where
    members : (q : ℕ) → (has (bit_or words nexts) q ≡ true) ↔ BackPairs table finals states l n set m p q
    members q = (
      λ t.
          ⊎_elim
          (λ (e : has words q ≡ true). inl (ap (λ (x : ℕ). has x q) (sym words_is) ∙ e))
          (λ (e : has nexts q ≡ true). inr ((nexts_are q).0 e))
          (or_passes (has words q) (has nexts q) (sym (has_or words nexts q) ∙ t)),
      λ t.
          has_or words nexts q
          ∙ ⊎_elim
          (λ (e : has (word_row table finals states (class_row_in l n) set p) q ≡ true).
          or_left (has words q) (has nexts q) (ap (λ (x : ℕ). has x q) words_is ∙ e))
          (λ (e : ApartNext table finals states m n p q). or_right (has words q) (has nexts q) ((nexts_are q).1 e))
          t,
    )

-- all rows are joined
pub Node-End
    : (table : List (List ℕ)) (finals states : ℕ) (l m : List ℕ) (n set grown p : ℕ) → n < 512 → states ≤ 16 → CellsBelow table
    → EdgesWithin l n → set ≡ call_set (node_in l n).kind → RowsGrown ApartIn (BackPairs table finals states l n set) l m n grown p
    → states ≤ p → NodeGrown table finals states l m n grown
Node-End table finals states l m n set grown p hn few below within set_is g all = record {
  kept = g.kept;
  held = g.held;
  sound = λ j nodes h a many old k x y b c d.
      g.sound j
      (λ w s rest r q e f v.
      back_sound h below (class_row_in l n) w n set a many few within set_is (only_classes l w n hn s) (λ u z i_small t. old n u z a i_small t)
      (λ i u z o i_small t. rest i u z (omega arith) i_small t (rw h.nodes_are at o)) r q e f)
      (λ i u z o i_small t v. old i u z (rw h.nodes_are v) i_small t)
      k x y (omega arith) c d (rw h.nodes_are at b);
  none = g.none;
  closed = λ e x y a b. g.closed e x y (omega arith) (subst (λ (v : ℕ). ApartBack table finals states (class_row_in l n) l n v x y) (sym set_is) b);
  left = g.left;
}

-- ---- one round over all nodes

-- the nodes from n on were grown once
pub record RoundSoFar (table : List (List ℕ)) (finals states nodes : ℕ) (l m : List ℕ) (grown n : ℕ) : Type 0 where
  pub within : n ≤ nodes
  pub kept : OnlyClasses l m
  pub held : (k p q : ℕ) → k < 512 → p < 16 → HeldApart l k p q → HeldApart m k p q
  pub sound : (j : Job) → JobHeld j l table finals states nodes → AllApart j nodes l → AllApart j nodes m
  pub none : grown ≡ 0 → m ≡ l
  pub closed : grown ≡ 0 → (k : ℕ) → n ≤ k → k < nodes → ClosedBack table finals states l k
  pub left : apart_left m + grown ≤ apart_left l

-- no node is grown
pub round_start : (table : List (List ℕ)) (finals states nodes : ℕ) (l : List ℕ) → RoundSoFar table finals states nodes l l 0 nodes
round_start table finals states nodes l = record {
  within = omega arith;
  kept = kept_none l class_part found_part;
  held = λ k p q a b h. h;
  sound = λ j h all. all;
  none = λ e. refl;
  closed = λ e k a b. absurd (omega arith);
  left = omega arith;
}

-- one node more
pub round_next
    : (table : List (List ℕ)) (finals states nodes : ℕ) (l m k : List ℕ) (grown n count : ℕ) → Usable l table states nodes → 0 < n
    → RoundSoFar table finals states nodes l m grown n → NodeGrown table finals states m k (n - 1) count
    → RoundSoFar table finals states nodes l k (grown + count) (n - 1)
round_next table finals states nodes l m k grown n count u some s g = record {
  within = omega (arith, s.within);
  kept = kept_both l m k class_part found_part (class_place (n - 1)) (class_place (n - 1) + class_size) s.kept g.kept (omega arith)
      (omega (arith, s.within, u.few_nodes));
  held = λ x p q a b h. g.held x p q a b (s.held x p q a b h);
  sound = λ j h all. g.sound j nodes (job_kept s.kept u h) (omega (arith, s.within)) u.few_nodes (s.sound j h all);
  none = λ e. g.none (omega arith) ∙ s.none (omega arith);
  closed = λ e x a b.
      by_cases (ℕ_discrete x (n - 1))
      (λ (f : x ≡ n - 1).
      subst (λ (y : ℕ). ClosedBack table finals states l y) (sym f)
      (subst (λ (w : List ℕ). ClosedBack table finals states w (n - 1)) (s.none (omega arith)) (g.closed (omega arith))))
      (λ (ne : x ≢ n - 1). s.closed (omega arith) x (omega arith) b);
  left = omega (arith, s.left, g.left);
}

-- all nodes are grown
pub round_done
    : (table : List (List ℕ)) (finals states nodes : ℕ) (l m : List ℕ) (grown n : ℕ) → RoundSoFar table finals states nodes l m grown n
    → n ≡ 0 → ClassesGrown table finals states nodes l m grown
round_done table finals states nodes l m grown n s z = record {
  kept = s.kept;
  held = s.held;
  sound = s.sound;
  closed = λ e k h. subst (λ (w : List ℕ). ClosedBack table finals states w k) (sym (s.none e)) (s.closed e k (omega arith) h);
  left = s.left;
}

-- ---- one turn

-- rows that hold what others do hold the after words that they do
after_held
    : {j : Job} {l : List ℕ} (m : List ℕ) {table : List (List ℕ)} {finals states nodes : ℕ} → Usable l table states nodes
    → JobHeld j l table finals states nodes → ((k p q : ℕ) → k < 512 → p < 16 → HeldApart l k p q → HeldApart m k p q)
    → AfterWhole j l nodes → AfterWhole j m nodes
after_held m u h held a n p q hn hp hq e w =
    held n p q (omega (arith, u.few_nodes)) (omega (arith, h.states_are, u.few_states)) (a n p q hn hp hq e w)

module _ {table : List (List ℕ)} {finals states nodes : ℕ} {l m : List ℕ} {grown : ℕ} (g : ClassesGrown table finals states nodes l m grown) where
  -- rows grew over the edges
  pub turn_grown : grown ≢ 0 → ClassesTurned table finals states nodes l m grown
  turn_grown some = record {
    kept = g.kept;
    held = g.held;
    sound = g.sound;
    closed = λ e. absurd (some e);
    returned = λ e. absurd (some e);
    left = g.left;
  }

  -- none grew, and those that come back in were looked at
  pub turn_returned
      : {k : List ℕ} {more : ℕ} → Usable l table states nodes → grown ≡ 0 → ClassesReturned table finals states nodes m k more
      → ClassesTurned table finals states nodes l k more
  turn_returned {k} u none r = record {
    kept = kept_both l m k class_part found_part class_part found_part g.kept r.kept (omega arith) (omega arith);
    held = λ x p q a b h. r.held x p q a b (g.held x p q a b h);
    sound = λ j h all. r.sound j (job_kept g.kept u h) (g.sound j h all);
    closed = λ e n h. subst (λ (w : List ℕ). ClosedBack table finals states w n) (sym (r.none e)) (g.closed none n h);
    returned = λ e j h a.
        subst (ReturnsClosed j table finals states nodes) (sym (r.none e))
        (r.closed e j (job_kept g.kept u h) (after_held m u h g.held a));
    left = omega (arith, g.left, r.left);
  }

-- ---- turns until no row grows

-- after some turns
pub record GrowingClasses (table : List (List ℕ)) (finals states nodes : ℕ) (l m : List ℕ) (grown : ℕ) : Type 0 where
  pub kept : OnlyClasses l m
  pub held : (k p q : ℕ) → k < 512 → p < 16 → HeldApart l k p q → HeldApart m k p q
  pub sound : (j : Job) → JobHeld j l table finals states nodes → AllApart j nodes l → AllApart j nodes m
  pub closed : grown ≡ 0 → (n : ℕ) → n < nodes → ClosedBack table finals states m n
  pub returned
      : grown ≡ 0 → (j : Job) → JobHeld j l table finals states nodes → AfterWhole j l nodes → ReturnsClosed j table finals states nodes m

-- before the first
pub growing_start : (table : List (List ℕ)) (finals states nodes : ℕ) (l : List ℕ) → GrowingClasses table finals states nodes l l 1
growing_start table finals states nodes l = record {
  kept = kept_none l class_part found_part;
  held = λ k p q a b h. h;
  sound = λ j h all. all;
  closed = λ e n h. absurd (omega arith);
  returned = λ e. absurd (omega arith);
}

-- one more
pub growing_more
    : (table : List (List ℕ)) (finals states nodes : ℕ) (l m k : List ℕ) (grown new : ℕ) → Usable l table states nodes
    → GrowingClasses table finals states nodes l m grown → ClassesTurned table finals states nodes m k new
    → GrowingClasses table finals states nodes l k new
growing_more table finals states nodes l m k grown new u s g = record {
  kept = kept_both l m k class_part found_part class_part found_part s.kept g.kept (omega arith) (omega arith);
  held = λ x p q a b h. g.held x p q a b (s.held x p q a b h);
  sound = λ j h all. g.sound j (job_kept s.kept u h) (s.sound j h all);
  closed = g.closed;
  returned = λ e j h a. g.returned e j (job_kept s.kept u h) (after_held m u h s.held a);
}

-- the after words of the exits are told apart
pub after_apart : (j : Job) (l : List ℕ) (nodes : ℕ) → AfterHeld j l nodes → AllApart j nodes l
after_apart j l nodes a n p q h b e =
    let r = a.sound n p q h b e in
    apart_moved (begins_after r.0) (word_apart (λ k l h. absurd h) r.0 r.1)

-- rows that are closed are closed backwards
pub closed_nodes
    : (table : List (List ℕ)) (finals states nodes : ℕ) (l m : List ℕ) (j : Job) → Usable l table states nodes → OnlyClasses l m
    → JobHeld j l table finals states nodes → ((n : ℕ) → n < nodes → ClosedBack table finals states m n)
    → ReturnsClosed j table finals states nodes m → NodeBackwards j full full (HeldApart m)
closed_nodes table finals states nodes l m j u kept old closed returned = record {
  edges = λ x n p q r e t.
      let there = in_nodes n (h.formed.edges x n e).1 in
      closed x (in_nodes x r.node) p q (in_states p r.one)
      (inr
      (record {
        to = n;
        edge = (h.edges x n (in_nodes x r.node)).0 e;
        apart = before_row_whole h u.cells m n p q (h.node n there) (small p r.one) (in_states q r.other) u.few_states t;
      }));
  call_splits = λ n s p q r i d.
      let below = symbol_small n s i in
      by_call n s p q r i
      (apart_by_unlike table finals (class_row_in m n) s p q (u.cells q s (small q r.other) below)
      (differ_cells h u.cells s p q below (small p r.one) (small q r.other) d));
  call_words = λ n s p q r i t.
      by_call n s p q r i
      (apart_by_rows table finals (class_row_in m n) s p q
      (pair_cells h u.cells s p q (symbol_small n s i) (small p r.one) (small q r.other) (HeldApart m n) t));
  after_words = λ n p q r e t. returned.returns n p q (in_nodes n r.node) r.one r.other e t;
  enters = λ x n p q r k e t.
      let there = in_nodes n (is_entry_node j n e) in
      returned.enters x n p q (in_nodes x r.node) there (small p r.one) k e
      (before_row_whole h u.cells m n p q (h.node n there) (small p r.one) (in_states q r.other) u.few_states t);
}
  where
    h : JobHeld j m table finals states nodes
    h = job_kept kept u old

    in_nodes : (n : ℕ) → n < length j.nodes → n < nodes
    in_nodes n b = omega (arith, old.nodes_are)

    in_states : (p : ℕ) → p < j.rule.states → p < states
    in_states p b = omega (arith, old.states_are)

    small : (p : ℕ) → p < j.rule.states → p < 16
    small p b = omega (arith, old.states_are, u.few_states)

    symbol_small : (n s : ℕ) → has (call_set (node_at j n).kind) s ≡ true → s < 16
    symbol_small n s i = omega (arith, (old.formed.kinds n).words_below s i, old.formed.rule.few_symbols)

    by_call
        : (n s p q : ℕ) → Within j (past n) p q → has (call_set (node_at j n).kind) s ≡ true
        → apart_by table finals (class_row_in m n) s p q ≡ true → HeldApart m n p q
    by_call n s p q r i f =
        let is : call_set (node_in m n).kind ≡ call_set (node_at j n).kind =
        ap (λ (y : Node). call_set y.kind) (h.node n (in_nodes n r.node)) in
        closed n (in_nodes n r.node) p q (in_states p r.one)
        (inl
        ((has_word_row table finals states (class_row_in m n) (call_set (node_in m n).kind) p q).1
        (in_states q r.other, s, symbol_small n s i, ap (λ (x : ℕ). has x s) is ∙ i, f)))

-- no row has grown
pub growing_end
    : (table : List (List ℕ)) (finals states nodes : ℕ) (l m : List ℕ) (grown : ℕ) → Usable l table states nodes
    → GrowingClasses table finals states nodes l m grown → grown ≡ 0 → ClassesFound table finals states nodes l m
growing_end table finals states nodes l m grown u s z = record {
  kept = s.kept;
  exact = λ j h a n p q hn hp hq.
      let node : n < length j.nodes = omega (arith, h.nodes_are) in
      let small : p < 16 = omega (arith, h.states_are, u.few_states) in
      ⊎_elim
      (λ (e : has (class_row_in m n p) q ≡ true).
      e
      ∙ sym
      (apart_true h.formed n p q node hp hq (s.sound j h (after_apart j l nodes a) n p q hn small e)))
      (λ (e : has (class_row_in m n p) q ≡ false).
      e
      ∙ sym
      (apart_false h.formed n p q node hp hq
      (node_backwards (closed_nodes table finals states nodes l m j u s.kept h (s.closed z) (s.returned z j h a.whole)))
      (λ x. true≢false (sym x ∙ e))))
      (passes_or_fails (has (class_row_in m n p) q));
}
