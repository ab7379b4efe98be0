-- `nodestore::store_node` meets its contract: each number is read back from its own bytes, and no other byte differs.
-- Assumes nothing.
use native.Mathlib.Omega.{arith}
use lib.ListN.{length-set}
use Rattle.nodestore.proofs.NodeLaws.{node_stored}
use Rattle.nodestore.proofs.store_node.Goals as goal

pub bounds-work-at-2 : goal.bounds-work-at-2
bounds-work-at-2 c = simp length-set (omega arith)

pub shape_of-work : goal.shape_of-work
shape_of-work c = simp length-set (omega arith)

pub returns : goal.returns
returns c =
    let x = c.args in
    let p = c.requires in
    node_stored x.work.now x.n x.numbers.now p.0 p.1.0 p.1.1 _ _ _ c.write16.ensures c.write16-2.ensures
    c.write16-3.ensures
