-- `afterwords::after_words` meets its contract.
-- Invariant: the rows of the nodes below n hold the after words of the exits among them, and the rows of the others are empty.
-- Assumes nothing.
use native.Mathlib.Omega.{arith}
use Rattle.tables.proofs.SixteenLaws.{empty_rows, empty_row, empty_sixteen}
use Rattle.classes.proofs.AfterLaws.{after_start, After-more, after_end}
use Rattle.afterwords.proofs.after_words.Goals as goal

pub clear_classes-requires : goal.clear_classes-requires
clear_classes-requires c = c.requires.long

pub loop-n-init : goal.loop-n-init
loop-n-init c =
    let a = c.args in
    after_start a.table.now a.finals a.states a.work.now c.clear_classes.new.work
    c.clear_classes.ensures

pub after_node-requires : goal.after_node-requires
unfolding empty_rows
after_node-requires c =
    let pre = c.requires in
    let long = c.loop-n.invariant.kept.long in
    let cleared = c.clear_classes.ensures.kept.long in
    (omega (arith, pre.long), (omega (arith, pre.few_nodes), (pre.few_states, (pre.cells, empty_sixteen))))

pub loop-n-preserved : goal.loop-n-preserved
unfolding empty_rows
loop-n-preserved c =
    let a = c.args in
    let pre = c.requires in
    let loop = c.loop-n in
    let cleared = c.clear_classes in
    let node = c.after_node in
    After-more a.table.now a.finals a.states cleared.new.work loop.work node.new.work loop.n (empty_rows 16) node.result
    (omega (arith, pre.few_nodes)) (empty_row 16) loop.invariant node.ensures

pub shape_of-work : goal.shape_of-work
shape_of-work c =
    let long = c.loop-n.invariant.kept.long in
    let cleared = c.clear_classes.ensures.kept.long in
    omega arith

pub returns : goal.returns
returns c =
    let a = c.args in
    let pre = c.requires in
    let cleared = c.clear_classes in
    after_end a.table.now a.finals a.states a.nodes a.work.now cleared.new.work c.loop-n.work c.loop-n.n
    pre.few_nodes (omega arith) cleared.ensures c.loop-n.invariant
