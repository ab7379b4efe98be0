-- `edgeput::put_edge` meets its contract: the from's place is found in the entry of its node; then each list is moved by one edge.
-- Assumes nothing.
use Prim.Native.Nat.{◌+◌}
use native.Mathlib.Omega.{arith}
use Rattle.edgeput.proofs.PutLaws.{node_in, next_in, last_in, searchable, starts_small, put_place, put_lists}
use Rattle.edgeput.proofs.put_edge.Goals as goal

pub bounds-starts-node : goal.bounds-starts-node
bounds-starts-node c = node_in c.requires.place

pub overflow_cast-first : goal.overflow_cast-first
overflow_cast-first c =
    let w = c.requires.place in
    record { fits = omega (arith, starts_small w c.args.to (omega (arith, w.to_node))) }

pub bounds-starts-node-2 : goal.bounds-starts-node-2
bounds-starts-node-2 c = next_in c.requires.place

pub overflow_cast-last : goal.overflow_cast-last
overflow_cast-last c =
    let w = c.requires.place in
    record { fits = omega (arith, starts_small w (c.args.to + 1) (omega (arith, w.to_node))) }

pub number_place-at-requires : goal.number_place-at-requires
number_place-at-requires c = searchable c.requires.place

pub open_at-requires-2 : goal.open_at-requires-2
open_at-requires-2 c =
    let w = c.requires in
    (put_place w c.number_place-at.result c.number_place-at.ensures, w.predecessors_long)

pub raise_starts-requires : goal.raise_starts-requires
raise_starts-requires c =
    let w = c.requires in
    (w.place.to_node, last_in w.place, starts_small w.place)

pub returns : goal.returns
returns c =
    put_lists
    c.requires
    c.number_place-at.result
    c.number_place-at.ensures
    c.open_at.new.list
    c.open_at-2.new.list
    c.raise_starts.new.starts
    c.open_at.ensures
    c.open_at-2.ensures
    c.raise_starts.ensures
