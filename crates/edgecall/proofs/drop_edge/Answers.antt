-- `edgecall::drop_edge` meets its contract: each test that fails denies that the edge is held; past them it is taken out at its place.
-- Assumes nothing.
use mathlib.Core.Path.{sym, ◌∙◌}
use mathlib.Core.Bool.{true≢false}
use native.Mathlib.Omega.{arith}
use Rattle.arrivals.specs.Arrivals.{lists}
use Rattle.arrivals.proofs.FitsLaws.{held_parts}
use Rattle.edgecall.proofs.CallLaws.{ends_nodes, ends_none, edge_downward, stands_held, drop_unheld, drop_refused, drop_made, some_edge}
use Rattle.edgecall.proofs.drop_edge.Goals as goal

pub returns-then-not-is_held : goal.returns-then-not-is_held
returns-then-not-is_held c =
    let x = c.args in
    let l = (lists x.edges.now x.predecessors.now x.starts.now) in
    drop_unheld x.nodes x.count x.from x.to l (sym c.is_held.ensures ∙ c.if-not-is_held.true)

pub returns-then-not-are_nodes : goal.returns-then-not-are_nodes
returns-then-not-are_nodes c =
    let x = c.args in
    let l = (lists x.edges.now x.predecessors.now x.starts.now) in
    drop_refused x.nodes x.count x.from x.to l
    (λ w.
    let both = w.held.within x.from x.to w.present in
    ends_none x.nodes x.from x.to _ c.are_nodes.ensures (c.if-not-are_nodes.true) both.0 both.1)

pub overflow_cast-a : goal.overflow_cast-a
overflow_cast-a c =
    let x = c.args in
    let l = (lists x.edges.now x.predecessors.now x.starts.now) in
    let few = (held_parts x.nodes x.count l (sym c.is_held.ensures ∙ c.if-not-is_held.false)).fit.few_nodes in
    record { fits = omega (arith, (ends_nodes x.nodes x.from x.to _ c.are_nodes.ensures (c.if-not-are_nodes.false)).0, few) }

pub overflow_cast-b : goal.overflow_cast-b
overflow_cast-b c =
    let x = c.args in
    let l = (lists x.edges.now x.predecessors.now x.starts.now) in
    let few = (held_parts x.nodes x.count l (sym c.is_held.ensures ∙ c.if-not-is_held.false)).fit.few_nodes in
    record { fits = omega (arith, (ends_nodes x.nodes x.from x.to _ c.are_nodes.ensures (c.if-not-are_nodes.false)).1, few) }

pub edge_place-place-requires : goal.edge_place-place-requires
edge_place-place-requires c =
    let x = c.args in
    let l = (lists x.edges.now x.predecessors.now x.starts.now) in
    let h = (sym c.is_held.ensures ∙ c.if-not-is_held.false) in
    ((held_parts x.nodes x.count l h).fit.edges_long, edge_downward x.nodes x.count x.from x.to l h)

pub is_at-requires : goal.is_at-requires
is_at-requires c =
    let x = c.args in
    let l = (lists x.edges.now x.predecessors.now x.starts.now) in
    (held_parts x.nodes x.count l (sym c.is_held.ensures ∙ c.if-not-is_held.false)).fit.edges_long

pub returns-then-not-is_at : goal.returns-then-not-is_at
returns-then-not-is_at c =
    let x = c.args in
    let l = (lists x.edges.now x.predecessors.now x.starts.now) in
    let h = (sym c.is_held.ensures ∙ c.if-not-is_held.false) in
    let both = ends_nodes x.nodes x.from x.to _ c.are_nodes.ensures (c.if-not-are_nodes.false) in
    let there =
    sym (stands_held x.nodes x.count c.edge_place-place.result x.from x.to l h both.1 c.edge_place-place.ensures)
    ∙ sym c.is_at.ensures in
    drop_refused x.nodes x.count x.from x.to l (λ w. true≢false (sym w.present ∙ there ∙ c.if-not-is_at.true))

pub take_edge-requires : goal.take_edge-requires
take_edge-requires c =
    let x = c.args in
    let l = (lists x.edges.now x.predecessors.now x.starts.now) in
    let h = (sym c.is_held.ensures ∙ c.if-not-is_held.false) in
    let both = ends_nodes x.nodes x.from x.to _ c.are_nodes.ensures (c.if-not-are_nodes.false) in
    let there =
    sym (stands_held x.nodes x.count c.edge_place-place.result x.from x.to l h both.1 c.edge_place-place.ensures)
    ∙ sym c.is_at.ensures in
    record {
      place = record { held = h; to_node = both.1; cut = c.edge_place-place.ensures };
      present = there ∙ c.if-not-is_at.false;
    }

pub overflow_sub-result : goal.overflow_sub-result
overflow_sub-result c =
    let x = c.args in
    let l = (lists x.edges.now x.predecessors.now x.starts.now) in
    let h = (sym c.is_held.ensures ∙ c.if-not-is_held.false) in
    let both = ends_nodes x.nodes x.from x.to _ c.are_nodes.ensures (c.if-not-are_nodes.false) in
    let there =
    sym (stands_held x.nodes x.count c.edge_place-place.result x.from x.to l h both.1 c.edge_place-place.ensures)
    ∙ sym c.is_at.ensures in
    some_edge x.nodes x.count x.from x.to l (there ∙ c.if-not-is_at.false)

pub returns : goal.returns
returns c =
    let x = c.args in
    let l = (lists x.edges.now x.predecessors.now x.starts.now) in
    let h = (sym c.is_held.ensures ∙ c.if-not-is_held.false) in
    let both = ends_nodes x.nodes x.from x.to _ c.are_nodes.ensures (c.if-not-are_nodes.false) in
    let there =
    sym (stands_held x.nodes x.count c.edge_place-place.result x.from x.to l h both.1 c.edge_place-place.ensures)
    ∙ sym c.is_at.ensures in
    drop_made x.nodes x.count x.from x.to l _ _ _ h both.0 both.1 (there ∙ c.if-not-is_at.false) c.take_edge.ensures
