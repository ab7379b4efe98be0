-- A test of jobs, and that a job which passes it is well formed: for jobs that are written out.
-- Assumes nothing.
use mathlib.Core.Path.{◌≡◌, sym, ap, ◌∙◌}
use mathlib.Core.Logic.{⊎_elim}
use mathlib.Core.Bool.{Bool, true, ◌&&◌, and-eq-true_iff, false≢true}
use mathlib.Core.List.{List, [], ◌∷◌}
use Prim.Native.Nat.{ℕ, zero, suc, ◌^◌, ◌<◌}
use lib.Dec.{ltb, eqb}
use lib.ListN.{get_or, length}
use lib.Pow.{pow_pos}
use borrow.Author.Tests.{ltb-true, lt-ltb, eqb-true}
use Rattle.laws.proofs.Tests.{or_passes}
use Rattle.laws.proofs.Bits.{has_below}
use Rattle.automaton.specs.Automaton.{well_formed}
use Rattle.automaton.proofs.AutomatonLaws.{well_formed_says}
use Rattle.job.specs.Job.{Kind, Point, no_point, point, point_of, call_set, Node, Edge, Job, no_node, node_at, holds, KindBelow, WellFormedJob}

-- the symbol of a point is below a
abbrev pub point_below : ℕ → Point → Bool
point_below a no_point = true
point_below a (point s) = ltb s a

-- the symbols of a kind are below a
abbrev pub kind_below : ℕ → Kind → Bool
kind_below a k = point_below a (point_of k) && ltb (call_set k) (2 ^ a)

-- a node names states below s and symbols below a
abbrev pub node_below : ℕ → ℕ → Node → Bool
node_below s a n = kind_below a n.kind && (ltb n.entry (2 ^ s) && ltb n.after (2 ^ a))

-- so does every node of a list
unfoldable pub nodes_below : ℕ → ℕ → List Node → Bool
nodes_below s a [] = true
nodes_below s a (n ∷ ns) = node_below s a n && nodes_below s a ns

-- every edge of a list names nodes below k
unfoldable pub edges_below : ℕ → List Edge → Bool
edges_below k [] = true
edges_below k (e ∷ es) = (ltb e.from k && ltb e.to k) && edges_below k es

-- every state, symbol and node that is named exists
unfoldable pub well_formed_job : Job → Bool
unfolding nodes_below edges_below
well_formed_job j =
    well_formed j.rule
    && (nodes_below j.rule.states j.rule.symbols j.nodes && edges_below (length j.nodes) j.edges)

-- both of two tests pass
both : (a b : Bool) → (a && b) ≡ true → (a ≡ true) × (b ≡ true)
both a b h = (and-eq-true_iff a b).0 h

-- the symbols of the kind exist
kind_below_lem : (a : ℕ) (k : Kind) → kind_below a k ≡ true → KindBelow a k
kind_below_lem a k h =
    let parts = both (point_below a (point_of k)) (ltb (call_set k) (2 ^ a)) h in
    record {
      point_below_holds = λ s e. ltb-true s a (sym (ap (point_below a) e) ∙ parts.0);
      words_below = λ s. has_below a (call_set k) s (ltb-true (call_set k) (2 ^ a) parts.1);
    }

-- a node of the list, or the one past its end
node_below_lem : (s a : ℕ) (ns : List Node) → nodes_below s a ns ≡ true → (n : ℕ) → node_below s a (get_or ns n no_node) ≡ true
unfolding nodes_below
node_below_lem s a [] h n =
    (and-eq-true_iff _ _).1 (lt-ltb 0 (2 ^ a) (pow_pos a), (and-eq-true_iff _ _).1 (lt-ltb 0 (2 ^ s) (pow_pos s), lt-ltb 0 (2 ^ a) (pow_pos a)))
node_below_lem s a (x ∷ xs) h zero = (both (node_below s a x) (nodes_below s a xs) h).0
node_below_lem s a (x ∷ xs) h (suc n) = node_below_lem s a xs (both (node_below s a x) (nodes_below s a xs) h).1 n

-- both ends of an edge exist
edge_below : (k : ℕ) (es : List Edge) → edges_below k es ≡ true → (m n : ℕ) → holds es m n ≡ true → (m < k) × (n < k)
unfolding edges_below holds
edge_below k [] h m n e = absurd (false≢true e)
edge_below k (x ∷ xs) h m n e =
    let parts = both (ltb x.from k && ltb x.to k) (edges_below k xs) h in
    let ends = both (ltb x.from k) (ltb x.to k) parts.0 in
    ⊎_elim
    (λ (p : (eqb x.from m && eqb x.to n) ≡ true).
    let same = both (eqb x.from m) (eqb x.to n) p in (
      rw (eqb-true x.from m same.0) at (ltb-true x.from k ends.0),
      rw (eqb-true x.to n same.1) at (ltb-true x.to k ends.1),
    ))
    (λ (p : holds xs m n ≡ true). edge_below k xs parts.1 m n p)
    (or_passes (eqb x.from m && eqb x.to n) (holds xs m n) e)

-- a job that passes the test is well formed
pub well_formed_job_lem : (j : Job) → well_formed_job j ≡ true → WellFormedJob j
unfolding well_formed_job
well_formed_job_lem j h =
    let s = j.rule.states in
    let a = j.rule.symbols in
    let parts = both (well_formed j.rule) (nodes_below s a j.nodes && edges_below (length j.nodes) j.edges) h in
    let lists = both (nodes_below s a j.nodes) (edges_below (length j.nodes) j.edges) parts.1 in
    let node : (n : ℕ) → (kind_below a (node_at j n).kind ≡ true) × ((ltb (node_at j n).entry (2 ^ s) && ltb (node_at j n).after (2 ^ a)) ≡ true) =
    λ n. both _ _ (node_below_lem s a j.nodes lists.0 n) in
    let sets : (n : ℕ) → (ltb (node_at j n).entry (2 ^ s) ≡ true) × (ltb (node_at j n).after (2 ^ a) ≡ true) = λ n. both _ _ (node n).1 in
    record {
      rule = (well_formed_says j.rule).0 parts.0;
      kinds = λ n. kind_below_lem a (node_at j n).kind (node n).0;
      entries = λ n q. has_below s (node_at j n).entry q (ltb-true _ _ (sets n).0);
      afters = λ n c. has_below a (node_at j n).after c (ltb-true _ _ (sets n).1);
      edges = edge_below (length j.nodes) j.edges lists.1;
    }
