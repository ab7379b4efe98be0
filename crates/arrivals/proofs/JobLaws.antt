-- The edges of an accepted job file can be indexed, and a node's entry names exactly the nodes with an edge to it.
-- Why: an accepted job is spellable, so its edges are few, ascend and join its nodes.
-- Assumes nothing.
use mathlib.Core.Path.{◌≡◌}
use mathlib.Core.Logic.{◌↔◌}
use mathlib.Core.Bool.{true}
use Prim.Native.Nat.{ℕ, ◌<◌}
use lib.ListN.{length}
use Rattle.job.specs.Job.{Job, leads}
use Rattle.jobfile.specs.Spellable.{Spellable}
use Rattle.jobfile.proofs.SpellableLaws.{read_written}
use Rattle.arrivals.specs.Arrivals.{Lists, indexed}
use Rattle.arrivals.specs.ArrivalsSay.{In, entry_in, Indexable, LentFor, JobIndex}
use Rattle.arrivals.proofs.IndexLaws.{index_says}
use Rattle.arrivals.proofs.KeepLaws.{held_entry, keeps_index}

-- the edges of a spellable job can be indexed in lists that are long enough
made : (j : Job) → Spellable j → (l : Lists) → LentFor j l → Indexable (length j.nodes) j.edges l
made j s l h =
    record {
      some_node = s.some_node;
      few_nodes = s.few_nodes;
      few_edges = s.few_edges;
      ascending = s.ascending;
      within = s.well_formed_holds.edges;
      edges = h.edges;
      predecessors_long = h.predecessors;
      starts_long = h.starts;
    }

-- an entry then names the nodes with an edge to its node
names
    : (j : Job) (l : Lists) → Indexable (length j.nodes) j.edges l → (m n : ℕ) → n < length j.nodes
    → In m (entry_in (indexed (length j.nodes) (length j.edges) l).left n) ↔ (leads j m n ≡ true)
names j l h m n b =
    let nodes = length j.nodes in
    let r = (indexed nodes (length j.edges) l).left in
    rw (held_entry nodes j.edges r (keeps_index.index_holds nodes j.edges l h) n b) (index_says.leading j.edges m n)

-- the index of an accepted job file
pub job_index : JobIndex
job_index =
    record {
      made = λ file j e. made j (read_written file j e).1;
      names = λ file j e l h. names j l (made j (read_written file j e).1 l h);
    }
