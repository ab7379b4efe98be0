-- `starts::start_node` meets its contract.
-- Invariant: `rest` is the admitted states from some number on; those before it were joined, and nothing else.
-- Measure: the set that is left, as a number. Each turn is one step of the walk.
-- Assumes nothing.
use native.Mathlib.Omega.{arith}
use Rattle.laws.proofs.Walk.{rest_lt, clear_lt}
use Rattle.starts.proofs.StartedLaws.{node_start, node_more, Node-End}
use Rattle.starts.proofs.start_node.Goals as goal

pub entry_set-rest-requires : goal.entry_set-rest-requires
entry_set-rest-requires c = c.requires

pub loop-rest-init : goal.loop-rest-init
loop-rest-init c = let x = c.args in node_start x.work.now x.n c.entry_set-rest.result (omega arith)

pub insert-requires : goal.insert-requires
insert-requires c =
    let l = c.loop-rest in
    omega (arith, c.lowest-q.ensures, rest_lt l.invariant.left (omega arith))

pub join_pairs-requires : goal.join_pairs-requires
join_pairs-requires c =
    let l = c.loop-rest in
    let p = c.requires in
    (omega (arith, l.invariant.grown.kept.long, p), (p.1, omega (arith, c.lowest-q.ensures, rest_lt l.invariant.left (omega arith))))

pub loop-rest-smaller : goal.loop-rest-smaller
loop-rest-smaller c =
    let l = c.loop-rest in
    rw c.without_lowest-rest.ensures (clear_lt l.rest (omega arith))

pub loop-rest-preserved : goal.loop-rest-preserved
loop-rest-preserved c =
    let l = c.loop-rest in
    let p = c.requires in
    node_more p.1 l.invariant (omega arith) c.lowest-q.ensures
    c.insert.ensures c.without_lowest-rest.ensures c.join_pairs.ensures

pub shape_of-work : goal.shape_of-work
shape_of-work c = c.loop-rest.invariant.grown.kept.long

pub returns : goal.returns
returns c = Node-End c.entry_set-rest.ensures (omega arith) c.loop-rest.invariant
