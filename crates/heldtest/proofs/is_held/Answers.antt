-- `heldtest::is_held` meets its contract: each test is made only where those before it pass.
-- Assumes nothing.
use mathlib.Core.Path.{sym, ◌∙◌}
use Rattle.arrivals.specs.Arrivals.{lists}
use Rattle.arrivals.proofs.FitsLaws.{fits_true}
use Rattle.heldtest.proofs.is_held.Goals as goal

pub is_ascending-requires : goal.is_ascending-requires
is_ascending-requires c =
    let x = c.args in
    (fits_true x.nodes x.count (lists x.edges.now x.predecessors.now x.starts.now) (sym c.is_fitting.ensures ∙ c.if-is_fitting.true)).edges_long
