-- `classgrowth::class_round` meets its contract.
-- Invariant: the nodes from n on were grown once, and `grown` of their rows grew.
-- Assumes nothing.
use Prim.Native.Nat.{◌-◌, ◌<◌}
use native.Mathlib.Omega.{arith}
use Rattle.classes.proofs.ClassLaws.{edges_within_kept, round_start, round_next, round_done}
use Rattle.buffer.proofs.ClassRowLaws.{apart_left_small}
use Rattle.classgrowth.proofs.class_round.Goals as goal

pub loop-n-init : goal.loop-n-init
loop-n-init c =
    let a = c.args in
    round_start a.table.now a.finals a.states a.nodes a.work.now

pub class_node-grown-requires : goal.class_node-grown-requires
class_node-grown-requires c =
    let a = c.args in
    let pre = c.requires in
    let loop = c.loop-n in
    let within = loop.invariant.within in
    let long = loop.invariant.kept.long in
    let below : loop.n - 1 < a.nodes = omega arith in
    let small : loop.n - 1 < 512 = omega (arith, pre.few_nodes) in (
      omega (arith, pre.long),
      (small, (pre.few_states, (pre.cells, edges_within_kept loop.invariant.kept (loop.n - 1) small (pre.edges (loop.n - 1) below)))),
    )

pub overflow_add-grown : goal.overflow_add-grown
overflow_add-grown c =
    let a = c.args in
    let inv = c.loop-n.invariant in
    omega (arith, inv.left, c.class_node-grown.ensures.left, apart_left_small a.work.now)

pub loop-n-preserved : goal.loop-n-preserved
loop-n-preserved c =
    let a = c.args in
    let pre = c.requires in
    let loop = c.loop-n in
    let node = c.class_node-grown in
    round_next a.table.now a.finals a.states a.nodes a.work.now loop.work node.new.work loop.grown loop.n
    node.result pre (omega arith) loop.invariant node.ensures

pub shape_of-work : goal.shape_of-work
shape_of-work c = c.loop-n.invariant.kept.long

pub returns : goal.returns
returns c =
    let a = c.args in
    let loop = c.loop-n in
    round_done a.table.now a.finals a.states a.nodes a.work.now loop.work loop.grown loop.n loop.invariant (omega arith)
