-- Lists that are held, and the place of an edge among their edges.
-- Inner contracts: what functions ask of and leave to each other. No promise is stated in them; a reader need not believe them.
-- Assumes nothing.
use Rattle.std.specs.Prelude.{◌≡◌, true, false, ℕ, ◌+◌, ◌*◌, ◌≤◌, ◌<◌, length}
use Rattle.job.specs.Job.{edge, holds}
use Rattle.arrivals.specs.Arrivals.{edge_at, is_before, Lists, edges_of, is_held}
use Rattle.arrivals.specs.Shifts.{Cut}

-- the place of an edge to a node below N
pub record AtPlace (n k p a b : ℕ) (l : Lists) : Type 0 where
  pub held : is_held n k l ≡ true
  pub to_node : b < n
  pub cut : Cut (λ i. is_before (edge_at l.edges i) (edge a b)) 0 k p

-- the edge may be put in there
pub record PutReady (n k p a b : ℕ) (l : Lists) : Type 0 where
  pub place : AtPlace n k p a b l
  pub edges_long : 2 * k + 2 ≤ length l.edges
  pub predecessors_long : k + 1 ≤ length l.predecessors
  pub absent : holds (edges_of k l) a b ≡ false

-- the edge may be taken out there
pub record TakeReady (n k p a b : ℕ) (l : Lists) : Type 0 where
  pub place : AtPlace n k p a b l
  pub present : holds (edges_of k l) a b ≡ true
