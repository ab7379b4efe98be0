-- A buffer that a job file was read into holds its job as the searches read it.
-- Assumes nothing.
use mathlib.Core.Path.{◌≡◌, refl, sym, ap, ◌∙◌, subst}
use mathlib.Core.Logic.{◌⊎◌, inl, inr, ⊎_elim, ◌↔◌}
use mathlib.Core.Bool.{true, false}
use mathlib.Core.List.{List, []}
use Prim.Native.Nat.{ℕ, suc, ◌≤◌, ◌<◌}
use native.Mathlib.Omega.{arith}
use lib.Dec.{ltb}
use lib.ListN.{length, get_or, get_or-eq_default}
use borrow.Author.Tests.{ltb-true, ltb-false}
use Rattle.laws.specs.Bounded.{tab}
use Rattle.laws.proofs.Tests.{passes_or_fails}
use Rattle.laws.proofs.Bounded.{get_d_tab, length_tab}
use Rattle.automaton.specs.Automaton.{next, cell}
use Rattle.job.specs.Job.{Job, no_node, node_at, leads}
use Rattle.jobfile.specs.File.{accepted, read_job}
use Rattle.jobfile.specs.Spellable.{Spellable}
use Rattle.jobfile.proofs.SpellableLaws.{read_written}
use Rattle.jobhead.specs.Numbers.{HeadNumbers}
use Rattle.buffer.specs.Layout.{Lent}
use Rattle.buffer.specs.Views.{node_in, start_in, target_in, cell_in, table_in, EdgeIn, rule_rows_in}
use Rattle.jobhead.specs.Stored.{job_in}
use Rattle.jobhead.specs.Reading.{head_of_answer, JobRead}
use Rattle.buffer.proofs.ViewLaws.{rule_cell}
use Rattle.tables.specs.Rows.{CellsBelow}
use Rattle.tables.specs.Held.{EdgesWithin, Usable, JobHeld}
use Rattle.admission.proofs.EdgeIndexLaws.{edges_says}

-- below or not
lt_or_ge : (a b : ℕ) → (a < b) ⊎ (b ≤ a)
lt_or_ge a b =
    ⊎_elim (λ (h : ltb a b ≡ true). inl (ltb-true a b h)) (λ (h : ltb a b ≡ false). inr (ltb-false a b h)) (passes_or_fails (ltb a b))

-- a bound on a number that equals another
le_of_eq_le : {x s q : ℕ} → x ≡ s → s ≤ q → x ≤ q
le_of_eq_le e h = rw e h

module _ (file l m : List ℕ) (r : HeadNumbers) (read : JobRead (read_job file) l m r) (j : Job) (e : read_job file ≡ accepted j) where
  -- the numbers returned are the job's
  numbers : r ≡ head_of_answer (accepted j)
  numbers = read.exact ∙ ap head_of_answer e

  -- no refusal
  good : r.refusal ≡ 0
  good = ap (λ (h : HeadNumbers). h.refusal) numbers

  -- what the file spells
  spelled : Spellable j
  spelled = (read_written file j e).1

  -- the buffer's job
  holds_job : job_in m r ≡ j
  holds_job = read.held j e

  -- S
  pub states_read : r.states ≡ j.rule.states
  states_read = ap (λ (h : HeadNumbers). h.states) numbers

  -- A
  symbols_read : r.symbols ≡ j.rule.symbols
  symbols_read = ap (λ (h : HeadNumbers). h.symbols) numbers

  -- the final set
  pub finals_read : r.finals ≡ j.rule.finals
  finals_read = ap (λ (h : HeadNumbers). h.finals) numbers

  -- N
  pub nodes_read : r.nodes ≡ length j.nodes
  nodes_read = ap (λ (h : HeadNumbers). h.nodes) numbers

  -- E is within its limit
  few_edges : r.edges ≤ 2048
  few_edges = rw (ap (λ (h : HeadNumbers). h.edges) numbers) spelled.few_edges

  -- N is within its limit
  pub few_nodes : r.nodes ≤ 512
  few_nodes = rw (nodes_read) spelled.few_nodes

  -- S is within its limit
  pub few_states : r.states ≤ 16
  few_states = rw (states_read) spelled.well_formed_holds.rule.few_states

  -- a node
  node_read : (n : ℕ) → n < r.nodes → node_in m n ≡ node_at j n
  node_read n h =
      sym (get_d_tab r.nodes (node_in m) n no_node h) ∙ ap (λ (k : Job). get_or k.nodes n no_node) holds_job

  -- an edge
  edge_read : (a b : ℕ) → a < r.nodes → (leads j a b ≡ true) ↔ EdgeIn m a b
  edge_read a b h =
      subst (λ (k : Job). (leads k a b ≡ true) ↔ EdgeIn m a b) holds_job
      (edges_says m r.nodes a b (λ x l. read.ascend good x l) h)

  -- a cell of the job's table
  job_cell : (s a q c : ℕ) → ((q < s) × (c < a)) → cell (table_in m s a) q c ≡ cell_in m q c
  unfolding cell table_in
  job_cell s a q c h =
      ap (λ (x : List ℕ). get_or x c 0) (get_d_tab s (λ (p : ℕ). tab a (cell_in m p)) q [] h.0) ∙ get_d_tab a (cell_in m q) c 0 h.1

  -- past S or A it is 0
  past_cell : (s a q c : ℕ) → (s ≤ q) ⊎ (a ≤ c) → cell (table_in m s a) q c ≡ 0
  unfolding cell table_in
  past_cell s a q c o =
      ⊎_elim
      (λ (h : s ≤ q).
      ap (λ (x : List ℕ). get_or x c 0)
      (get_or-eq_default (tab s (λ (p : ℕ). tab a (cell_in m p))) [] (le_of_eq_le (length_tab s (λ (p : ℕ). tab a (cell_in m p))) h)))
      (λ (h : a ≤ c).
      ⊎_elim
      (λ (k : q < s).
      ap (λ (x : List ℕ). get_or x c 0) (get_d_tab s (λ (p : ℕ). tab a (cell_in m p)) q [] k)
      ∙ get_or-eq_default (tab a (cell_in m q)) 0 (le_of_eq_le (length_tab a (cell_in m q)) h))
      (λ (k : s ≤ q).
      ap (λ (x : List ℕ). get_or x c 0)
      (get_or-eq_default (tab s (λ (p : ℕ). tab a (cell_in m p))) [] (le_of_eq_le (length_tab s (λ (p : ℕ). tab a (cell_in m p))) k)))
      (lt_or_ge q s))
      o

  -- a cell of the table handed over
  cell_read : (q c : ℕ) → q < 16 → c < 16 → cell (rule_rows_in m) q c ≡ next j.rule q c
  cell_read q c h k =
      rule_cell m q c h k ∙ inside ∙ ap (λ (x : Job). cell x.rule.table q c) holds_job
    where
      inside : cell_in m q c ≡ cell (table_in m r.states r.symbols) q c
      inside =
          ⊎_elim
          (λ (a : q < r.states).
          ⊎_elim
          (λ (b : c < r.symbols). sym (job_cell r.states r.symbols q c (a, b)))
          (λ (b : r.symbols ≤ c). read.zeros good q c h k (inr b) ∙ sym (past_cell r.states r.symbols q c (inr b)))
          (lt_or_ge c r.symbols))
          (λ (a : r.states ≤ q). read.zeros good q c h k (inl a) ∙ sym (past_cell r.states r.symbols q c (inl a)))
          (lt_or_ge q r.states)

  -- every cell is below 16
  cells_read : CellsBelow (rule_rows_in m)
  cells_read q c h k =
      rw (rule_cell m q c h k)
      (⊎_elim
      (λ (a : q < r.states).
      ⊎_elim
      (λ (b : c < r.symbols).
      let below : next j.rule q c < j.rule.states =
      spelled.well_formed_holds.rule.next_below q c (rw (← states_read) a) (rw (← symbols_read) b) in
      let few : j.rule.states ≤ 16 = spelled.well_formed_holds.rule.few_states in
      let same : cell_in m q c ≡ next j.rule q c = sym (rule_cell m q c h k) ∙ cell_read q c h k in
      omega arith)
      (λ (b : r.symbols ≤ c). let z : cell_in m q c ≡ 0 = read.zeros good q c h k (inr b) in omega arith)
      (lt_or_ge c r.symbols))
      (λ (a : r.states ≤ q). let z : cell_in m q c ≡ 0 = read.zeros good q c h k (inl a) in omega arith)
      (lt_or_ge q r.states))

  -- the edges of a node lie in their part
  edges_read : (n : ℕ) → n < r.nodes → EdgesWithin m n
  edges_read n h =
      let few = few_edges in
      let many = few_nodes in
      let one : start_in m n ≤ r.edges = read.starts good n (omega arith) in
      let two : start_in m (suc n) ≤ r.edges = read.starts good (suc n) (omega arith) in
      record {
        first = omega arith;
        last = omega arith;
        targets = λ i a b.
            let to = spelled.well_formed_holds.edges n (target_in m i)
            ((edge_read n (target_in m i) h).1 (record { index = i; first = a; last = b; target = refl })) in
            let below : target_in m i < length j.nodes = to.1 in
            let count : length j.nodes ≤ 512 = spelled.few_nodes in
            omega arith;
      }

  -- buffer and table are as the searches need them
  pub usable_read : Lent m → Usable m (rule_rows_in m) r.states r.nodes
  usable_read long = record { long = long; few_states = few_states; few_nodes = few_nodes; cells = cells_read; edges = edges_read }

  -- and hold the job
  pub job_read : JobHeld j m (rule_rows_in m) r.finals r.states r.nodes
  job_read = record {
    formed = spelled.well_formed_holds;
    states_are = states_read;
    finals_are = finals_read;
    nodes_are = nodes_read;
    cells = cell_read;
    node = node_read;
    edges = edge_read;
  }
