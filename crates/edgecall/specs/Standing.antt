-- The ends of an edge, and an edge at a place of a list of edges.
-- Inner contracts: what functions ask of and leave to each other. No promise is stated in them; a reader need not believe them.
-- Assumes nothing.
use Rattle.std.specs.Prelude.{Bool, ◌&&◌, List, ℕ, eqb, ltb}
use Rattle.arrivals.specs.Arrivals.{edge_at}

-- both ends are below n
abbrev pub ends_below : ℕ → ℕ → ℕ → Bool
ends_below n a b = ltb a n && ltb b n

-- the place is among the first k, and the edge from a to b stands there
abbrev pub stands_at : List ℕ → ℕ → ℕ → ℕ → ℕ → Bool
stands_at l k p a b = ltb p k && (eqb (edge_at l p).from a && eqb (edge_at l p).to b)
