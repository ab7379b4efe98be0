-- `edgeput::take_edge` meets its contract: the from's place is found in the entry of its node; then each list is closed over the edge.
-- Assumes nothing.
use Prim.Native.Nat.{◌+◌}
use native.Mathlib.Omega.{arith}
use borrow.Author.Rules.{rules}
use Rattle.edgeput.proofs.PutLaws.{fit, node_in, next_in, last_in, searchable, starts_small, take_place, take_lists, take_edge_place, starts_some}
use Rattle.edgeput.proofs.take_edge.Goals as goal

pub bounds-starts-node : goal.bounds-starts-node
bounds-starts-node c = node_in c.requires.place

pub overflow_cast-first : goal.overflow_cast-first
overflow_cast-first c =
    let w = c.requires.place in
    record { fits = omega (arith, starts_small w c.args.to (omega (arith, w.to_node))) }

pub bounds-starts-node-2 : goal.bounds-starts-node-2
bounds-starts-node-2 c = next_in c.requires.place

pub overflow_cast-last : goal.overflow_cast-last
overflow_cast-last c =
    let w = c.requires.place in
    record { fits = omega (arith, starts_small w (c.args.to + 1) (omega (arith, w.to_node))) }

pub number_place-at-requires : goal.number_place-at-requires
number_place-at-requires c = searchable c.requires.place

pub overflow_mul-place : goal.overflow_mul-place
overflow_mul-place c = let w = c.requires in search (rules, take_edge_place w, (fit w.place).few_edges)

pub overflow_mul-count : goal.overflow_mul-count
overflow_mul-count c = let w = c.requires in search (rules, (fit w.place).few_edges)

pub close_at-requires : goal.close_at-requires
close_at-requires c =
    let w = c.requires in
    (omega (arith, take_edge_place w), (fit w.place).edges_long)

pub close_at-requires-2 : goal.close_at-requires-2
close_at-requires-2 c =
    let w = c.requires in
    (omega (arith, take_place w c.number_place-at.result c.number_place-at.ensures), (fit w.place).predecessors_long)

pub lower_starts-requires : goal.lower_starts-requires
lower_starts-requires c =
    let w = c.requires in
    (w.place.to_node, last_in w.place, starts_some w)

pub returns : goal.returns
returns c =
    take_lists
    c.requires
    c.number_place-at.result
    c.number_place-at.ensures
    c.close_at.new.list
    c.close_at-2.new.list
    c.lower_starts.new.starts
    c.close_at.ensures
    c.close_at-2.ensures
    c.lower_starts.ensures
