-- `edgeline::is_edge` meets its contract: each test that fails denies one part, and past them edges ascend as their keys do.
-- Assumes nothing.
use native.Mathlib.Omega.{arith}
use Rattle.edgeline.proofs.EdgeLineLaws.{edge_from, edge_to, edge_key}
use Rattle.edgeline.proofs.is_edge.Goals as goal

pub returns-then-nodes-from : goal.returns-then-nodes-from
returns-then-nodes-from c = let x = c.args in edge_from x.nodes x.next x.numbers.now c.if-nodes-from.true

pub returns-then-nodes-to : goal.returns-then-nodes-to
returns-then-nodes-to c = let x = c.args in edge_to x.nodes x.next x.numbers.now c.if-nodes-to.true

pub returns : goal.returns
returns c = let x = c.args in edge_key x.nodes x.next x.numbers.now (omega arith) (omega arith) (omega arith)
