-- The longest file: for all numbers within the limits of the J line, with at most four edges a node, there is a spellable job, and
-- the job of 16 states, 16 symbols, 512 nodes and 2,048 edges is written in 49,914 bytes.
-- Assumes nothing.
use Prim.Native.Nat.{ℕ, zero, suc, ◌+◌, ◌*◌, ◌/◌, ◌%◌, ◌≤◌, ◌<◌}
use mathlib.Core.Path.{◌≡◌, refl, sym, ap, ◌∙◌}
use mathlib.Core.Logic.{inl, inr, ⊎_elim, by_cases}
use mathlib.Core.Bool.{true, false, ◌&&◌, and-eq-true_iff, true≢false}
use mathlib.Core.List.{List, []}
use native.Mathlib.Decide.{dec_lt}
use native.Mathlib.Omega.{arith}
use lib.Dec.{eqb}
use lib.Pow.{pow-lt}
use lib.ListN.{length, get_or, replicate, length-replicate, get_or-replicate}
use borrow.Author.Tests.{eqb-true}
use Rattle.laws.specs.Bounded.{tab_from}
use Rattle.laws.specs.Bits.{has}
use Rattle.laws.proofs.Tests.{or_passes}
use Rattle.laws.proofs.Bits.{below_says}
use Rattle.automaton.specs.Automaton.{cell}
use Rattle.job.specs.Job.{plain, Node, Edge, Job, no_node, holds, KindBelow, WellFormedJob}
use Rattle.job.proofs.KindLaws.{plain_below}
use Rattle.jobfile.specs.File.{accepted, read_job, write_job}
use Rattle.jobfile.specs.Refusal.{HeadWithin}
use Rattle.jobfile.specs.Spellable.{Before, Ascending, no_edge, one_edge, next_edge, Spellable, LongestFile}
use Rattle.jobfile.proofs.SpelledNodes.{none_below}
use Rattle.jobfile.proofs.SpellableLaws.{written_length, longest, written_read}

-- ---- a job of any size

-- a row of next states
abbrev full_row : ℕ → List ℕ
full_row a = replicate a 0

-- a plain entry
abbrev full_node : Node
full_node = record { kind = plain; entry = 1; exit = false; after = 0 }

-- four edges from each node, to the nodes 0 to 3
abbrev full_edge : ℕ → Edge
full_edge i = record { from = i / 4; to = i % 4 }

-- a job of these numbers
unfoldable full_job : ℕ → ℕ → ℕ → ℕ → Job
full_job s a n e =
    record {
      rule = record { states = s; symbols = a; finals = 0; table = replicate s (full_row a) };
      nodes = replicate n full_node;
      edges = tab_from 0 e full_edge;
    }

-- ---- its edges

-- they are as many as asked for
edges_count : (i e : ℕ) → length (tab_from i e full_edge) ≡ e
unfolding tab_from
edges_count i zero = refl
edges_count i (suc e) = ap suc (edges_count (suc i) e)

-- each is after the one before
edge_next : (i : ℕ) → Before (full_edge i) (full_edge (suc i))
edge_next i =
    by_cases (dec_lt (i / 4) (suc i / 4))
    (λ (l : i / 4 < suc i / 4). inl l)
    (λ (g : i / 4 < suc i / 4 → ⊥). inr (omega arith, omega arith))

-- they ascend
edges_up : (i e : ℕ) → Ascending (tab_from i e full_edge)
unfolding tab_from
edges_up i zero = no_edge
edges_up i (suc zero) = one_edge
edges_up i (suc (suc e)) = next_edge (edge_next i) (edges_up (suc i) (suc e))

-- they are within the nodes
edges_within
    : (n i e p q : ℕ) → 4 ≤ n → i + e ≤ n * 4 → holds (tab_from i e full_edge) p q ≡ true → (p < n) × (q < n)
unfolding tab_from holds
edges_within n i zero p q few h t = absurd (true≢false (sym t))
edges_within n i (suc e) p q few h t =
    ⊎_elim
    (λ (b : (eqb (i / 4) p && eqb (i % 4) q) ≡ true).
    let both = (and-eq-true_iff (eqb (i / 4) p) (eqb (i % 4) q)).0 b in
    let from = eqb-true (i / 4) p both.0 in
    let to = eqb-true (i % 4) q both.1 in
    (omega arith, omega arith))
    (λ (b : holds (tab_from (suc i) e full_edge) p q ≡ true). edges_within n (suc i) e p q few (omega arith) b)
    (or_passes (eqb (i / 4) p && eqb (i % 4) q) (holds (tab_from (suc i) e full_edge) p q) t)

-- ---- its nodes

-- what holds of the one node and past the last holds at every number
nodes_each : (P : Node → Type 0) → P full_node → P no_node → (n m : ℕ) → P (get_or (replicate n full_node) m no_node)
nodes_each P here past zero m = past
nodes_each P here past (suc n) zero = here
nodes_each P here past (suc n) (suc m) = nodes_each P here past n m

-- 1 is a set of s states
one_below : (s : ℕ) → 1 ≤ s → (q : ℕ) → has 1 q ≡ true → q < s
one_below s h = (below_says s 1).0 (pow-lt h)

-- ---- it is spellable

-- every state, symbol and node that it names exists
full_fine : (s a n e : ℕ) → HeadWithin s a n e → 4 ≤ n → e ≤ n * 4 → WellFormedJob (full_job s a n e)
unfolding full_job cell
full_fine s a n e f few h =
    record {
      rule =
          record {
            some_state = f.some_state;
            few_states = f.few_states;
            some_symbol = f.some_symbol;
            few_symbols = f.few_symbols;
            next_below = λ q c hq hc.
                rw (get_or-replicate s q (full_row a) [] hq, get_or-replicate {A = ℕ} a c 0 0 hc) f.some_state;
            finals_below = none_below s;
          };
      kinds = nodes_each (λ (x : Node). KindBelow a x.kind) plain_below plain_below n;
      entries = nodes_each (λ (x : Node). (q : ℕ) → has x.entry q ≡ true → q < s) (one_below s f.some_state) (none_below s) n;
      afters = nodes_each (λ (x : Node). (q : ℕ) → has x.after q ≡ true → q < a) (none_below a) (none_below a) n;
      edges = λ p q t. rw (length-replicate n full_node) (edges_within n 0 e p q few (omega arith) t);
    }

-- it is within the limits of the file
full_spellable : (s a n e : ℕ) → HeadWithin s a n e → 4 ≤ n → e ≤ n * 4 → Spellable (full_job s a n e)
unfolding full_job
full_spellable s a n e f few h =
    record {
      well_formed_holds = full_fine s a n e f few h;
      rows = length-replicate s (full_row a);
      columns = λ q hq. rw (get_or-replicate s q (full_row a) [] hq) (length-replicate {A = ℕ} a 0);
      some_node = rw (length-replicate n full_node) f.some_node;
      few_nodes = rw (length-replicate n full_node) f.few_nodes;
      few_edges = rw (edges_count 0 e) f.few_edges;
      ascending = edges_up 0 e;
      afters = nodes_each (λ (x : Node). x.exit ≡ false → x.after ≡ 0) (λ t. refl) (λ t. refl) n;
      some_entry_holds = (0, rw (get_or-replicate n 0 full_node no_node f.some_node) (omega arith));
    }

-- how long its file is
full_length
    : (s a n e : ℕ) → HeadWithin s a n e → 4 ≤ n → e ≤ n * 4
    → length (write_job (full_job s a n e)) ≡ 26 + s * (a * 6 + 14) + n * 38 + e * 14
unfolding full_job
full_length s a n e f few h =
    written_length (full_job s a n e) (full_spellable s a n e f few h)
    ∙ rw (length-replicate n full_node, edges_count 0 e)

-- a file of 49,914 bytes, with 16 states and 2,048 edges, is accepted
pub longest_accepted
    : (j : Job)
    × Spellable j × (j.rule.states ≡ 16) × (length j.edges ≡ 2048) × (length (write_job j) ≡ 49914)
    × (read_job (write_job j) ≡ accepted j)
unfolding full_job
longest_accepted =
    let f : HeadWithin 16 16 512 2048 = omega arith in
    let spell = full_spellable 16 16 512 2048 f (omega arith) (omega arith) in (
      full_job 16 16 512 2048,
      spell,
      refl,
      edges_count 0 2048,
      full_length 16 16 512 2048 f (omega arith) (omega arith),
      written_read (full_job 16 16 512 2048) spell,
    )

-- the longest file of a job has 49,914 bytes
pub longest_file : LongestFile
longest_file = let (j, spell, states, edges, bytes, read) = longest_accepted in
    (λ k file fine a. rw (← a.long) (longest k fine), (j, spell, bytes))
