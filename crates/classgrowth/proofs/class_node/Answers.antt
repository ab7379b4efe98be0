-- `classgrowth::class_node` meets its contract.
-- Invariant: the rows of node n below p were joined, and `grown` of them grew.
-- Assumes nothing.
use native.Mathlib.Omega.{arith}
use Rattle.buffer.specs.Views.{class_row_in}
use Rattle.classes.proofs.GrownLaws.{rows_none}
use Rattle.classes.proofs.ClassLaws.{ApartIn, BackPairs, edges_within_kept, rows_long, read_words, node_more, Node-End}
use Rattle.buffer.proofs.ClassRowLaws.{apart_left_small, only_classes}
use Rattle.classgrowth.proofs.class_node.Goals as goal

pub loop-p-init : goal.loop-p-init
loop-p-init c =
    let a = c.args in
    rows_none ApartIn (BackPairs a.table.now a.finals a.states a.work.now a.n c.call_set-set.result)
    a.work.now a.n

pub word_row-words-requires : goal.word_row-words-requires
word_row-words-requires c =
    let a = c.args in
    let pre = c.requires in
    let rows = c.class_rows-rows in
    (rows_long (class_row_in a.work.now a.n) rows.ensures, (omega (arith, pre.1.1.0), (pre.1.1.0, pre.1.1.1.0)))

pub successor_row-requires : goal.successor_row-requires
successor_row-requires c =
    let a = c.args in
    let pre = c.requires in
    let loop = c.loop-p in
    let long = loop.invariant.kept.long in
    let same = only_classes a.work.now loop.work a.n pre.1.0 loop.invariant.kept in (
      omega (arith, pre.0),
      (
        pre.1.0,
        (omega (arith, pre.1.1.0), (pre.1.1.0, (pre.1.1.1.0, edges_within_kept same a.n pre.1.0 pre.1.1.1.1))),
      ),
    )

pub join_classes-grown-requires : goal.join_classes-grown-requires
join_classes-grown-requires c =
    let pre = c.requires in
    let long = c.loop-p.invariant.kept.long in
    (omega (arith, pre.0), (pre.1.0, omega (arith, pre.1.1.0)))

pub overflow_add-grown : goal.overflow_add-grown
overflow_add-grown c =
    let a = c.args in
    let inv = c.loop-p.invariant in
    omega (arith, inv.left, c.join_classes-grown.ensures.left, apart_left_small a.work.now)

pub loop-p-preserved : goal.loop-p-preserved
loop-p-preserved c =
    let loop = c.loop-p in
    let rows = c.class_rows-rows in
    let set = c.call_set-set in
    let a = c.args in
    let pre = c.requires in
    let words = c.word_row-words in
    let nexts = c.successor_row in
    let joined = c.join_classes-grown in
    node_more a.table.now a.finals a.states a.work.now loop.work joined.new.work a.n set.result loop.grown
    loop.p words.result nexts.result joined.result pre.1.0 (omega (arith, pre.1.1.0)) loop.invariant
    (read_words a.table.now a.finals a.states a.work.now rows.result a.n set.result loop.p words.result
    pre.1.1.1.0 (omega (arith, pre.1.1.0)) rows.ensures words.ensures) nexts.ensures joined.ensures

pub shape_of-work : goal.shape_of-work
shape_of-work c = c.loop-p.invariant.kept.long

pub returns : goal.returns
returns c =
    let a = c.args in
    let pre = c.requires in
    let set = c.call_set-set in
    Node-End a.table.now a.finals a.states a.work.now c.loop-p.work a.n set.result c.loop-p.grown
    c.loop-p.p pre.1.0 pre.1.1.0 pre.1.1.1.0 pre.1.1.1.1 set.ensures c.loop-p.invariant (omega arith)
