-- `edgecall::add_edge` meets its contract: each test that fails denies one part of `Addable`; past them the edge is put in at its place.
-- Assumes nothing.
use mathlib.Core.Path.{◌≡◌, sym, ◌∙◌}
use mathlib.Core.Bool.{true, true≢false}
use native.Mathlib.Omega.{arith}
use Rattle.job.specs.Job.{holds}
use Rattle.arrivals.specs.Arrivals.{lists, edges_of}
use Rattle.arrivals.proofs.PlacedLaws.{length_edges_in}
use Rattle.arrivals.proofs.FitsLaws.{held_parts}
use Rattle.edgecall.proofs.CallLaws.{ends_nodes, ends_none, edge_downward, stands_held, add_unheld, add_refused, add_made}
use Rattle.edgecall.proofs.add_edge.Goals as goal

pub returns-then-not-is_held : goal.returns-then-not-is_held
returns-then-not-is_held c =
    let x = c.args in
    let l = (lists x.edges.now x.predecessors.now x.starts.now) in
    add_unheld x.nodes x.count x.from x.to l (sym c.is_held.ensures ∙ c.if-not-is_held.true)

pub returns-then-not-are_nodes : goal.returns-then-not-are_nodes
returns-then-not-are_nodes c =
    let x = c.args in
    let l = (lists x.edges.now x.predecessors.now x.starts.now) in
    add_refused x.nodes x.count x.from x.to l
    (λ w. ends_none x.nodes x.from x.to _ c.are_nodes.ensures (c.if-not-are_nodes.true) w.from_node w.to_node)

pub returns-then-count-ge2048 : goal.returns-then-count-ge2048
returns-then-count-ge2048 c =
    let x = c.args in
    let l = (lists x.edges.now x.predecessors.now x.starts.now) in
    add_refused x.nodes x.count x.from x.to l (λ w. omega (arith, w.room, length_edges_in x.count x.edges.now, c.if-count-ge2048.true))

pub returns-then-edges-k : goal.returns-then-edges-k
returns-then-edges-k c =
    let x = c.args in
    let l = (lists x.edges.now x.predecessors.now x.starts.now) in
    add_refused x.nodes x.count x.from x.to l (λ w. omega (arith, w.edges_long, length_edges_in x.count x.edges.now, c.if-edges-k.true))

pub returns-then-predecessors-k : goal.returns-then-predecessors-k
returns-then-predecessors-k c =
    let x = c.args in
    let l = (lists x.edges.now x.predecessors.now x.starts.now) in
    add_refused x.nodes x.count x.from x.to l (λ w. omega (arith, w.predecessors_long, length_edges_in x.count x.edges.now, c.if-predecessors-k.true))

pub overflow_cast-a : goal.overflow_cast-a
overflow_cast-a c =
    let x = c.args in
    let l = (lists x.edges.now x.predecessors.now x.starts.now) in
    let few = (held_parts x.nodes x.count l (sym c.is_held.ensures ∙ c.if-not-is_held.false)).fit.few_nodes in
    record { fits = omega (arith, (ends_nodes x.nodes x.from x.to _ c.are_nodes.ensures (c.if-not-are_nodes.false)).0, few) }

pub overflow_cast-b : goal.overflow_cast-b
overflow_cast-b c =
    let x = c.args in
    let l = (lists x.edges.now x.predecessors.now x.starts.now) in
    let few = (held_parts x.nodes x.count l (sym c.is_held.ensures ∙ c.if-not-is_held.false)).fit.few_nodes in
    record { fits = omega (arith, (ends_nodes x.nodes x.from x.to _ c.are_nodes.ensures (c.if-not-are_nodes.false)).1, few) }

pub edge_place-place-requires : goal.edge_place-place-requires
edge_place-place-requires c =
    let x = c.args in
    let l = (lists x.edges.now x.predecessors.now x.starts.now) in
    let h = (sym c.is_held.ensures ∙ c.if-not-is_held.false) in
    ((held_parts x.nodes x.count l h).fit.edges_long, edge_downward x.nodes x.count x.from x.to l h)

pub returns-then-is_at : goal.returns-then-is_at
returns-then-is_at c =
    let x = c.args in
    let l = (lists x.edges.now x.predecessors.now x.starts.now) in
    let h = (sym c.is_held.ensures ∙ c.if-not-is_held.false) in
    let both = ends_nodes x.nodes x.from x.to _ c.are_nodes.ensures (c.if-not-are_nodes.false) in
    let there : holds (edges_of x.count l) x.from x.to ≡ true =
    sym (stands_held x.nodes x.count c.edge_place-place.result x.from x.to l h both.1 c.edge_place-place.ensures)
    ∙ sym c.is_at.ensures ∙ c.if-is_at.true in
    add_refused x.nodes x.count x.from x.to l (λ w. true≢false (sym there ∙ w.absent))

pub put_edge-requires : goal.put_edge-requires
put_edge-requires c =
    let x = c.args in
    let l = (lists x.edges.now x.predecessors.now x.starts.now) in
    let h = (sym c.is_held.ensures ∙ c.if-not-is_held.false) in
    let both = ends_nodes x.nodes x.from x.to _ c.are_nodes.ensures (c.if-not-are_nodes.false) in
    record {
      place = record { held = h; to_node = both.1; cut = c.edge_place-place.ensures };
      edges_long = omega (arith, c.if-edges-k.false);
      predecessors_long = omega (arith, c.if-predecessors-k.false);
      absent =
          sym (stands_held x.nodes x.count c.edge_place-place.result x.from x.to l h both.1 c.edge_place-place.ensures)
          ∙ sym c.is_at.ensures ∙ c.if-is_at.false;
    }

pub returns : goal.returns
returns c =
    let x = c.args in
    let l = (lists x.edges.now x.predecessors.now x.starts.now) in
    let h = (sym c.is_held.ensures ∙ c.if-not-is_held.false) in
    let both = ends_nodes x.nodes x.from x.to _ c.are_nodes.ensures (c.if-not-are_nodes.false) in
    add_made x.nodes x.count x.from x.to l _ _ _ h both.0 both.1 (omega (arith, c.if-count-ge2048.false)) (omega (arith, c.if-edges-k.false))
    (omega (arith, c.if-predecessors-k.false))
    (sym (stands_held x.nodes x.count c.edge_place-place.result x.from x.to l h both.1 c.edge_place-place.ensures)
    ∙ sym c.is_at.ensures ∙ c.if-is_at.false)
    c.put_edge.ensures
