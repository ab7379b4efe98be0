-- `classgrowth::grow_classes` meets its contract.
-- Invariant: the class rows hold what some continuation tells apart; they are closed where the last turn grew none.
-- Measure: the room in the class rows and one more; nothing where the last turn grew none.
-- Assumes nothing.
use native.Mathlib.Omega.{arith}
use Rattle.classes.proofs.GrownLaws.{rank_less}
use Rattle.classes.proofs.ClassLaws.{usable_kept, growing_start, growing_more, growing_end}
use Rattle.buffer.specs.ClassRows.{apart_left}
use Rattle.classgrowth.proofs.grow_classes.Goals as goal

pub loop-grown-init : goal.loop-grown-init
loop-grown-init c =
    let a = c.args in
    growing_start a.table.now a.finals a.states a.nodes a.work.now

pub class_turn-grown-requires : goal.class_turn-grown-requires
class_turn-grown-requires c = usable_kept c.loop-grown.invariant.kept c.requires

pub loop-grown-smaller : goal.loop-grown-smaller
loop-grown-smaller c =
    let loop = c.loop-grown in
    let turn = c.class_turn-grown in
    rank_less loop.grown turn.result (apart_left turn.new.work) (apart_left loop.work)
    c.loop-grown-test.true turn.ensures.left

pub loop-grown-preserved : goal.loop-grown-preserved
loop-grown-preserved c =
    let a = c.args in
    let pre = c.requires in
    let loop = c.loop-grown in
    let turn = c.class_turn-grown in
    growing_more a.table.now a.finals a.states a.nodes a.work.now loop.work turn.new.work loop.grown turn.result
    pre loop.invariant turn.ensures

pub shape_of-work : goal.shape_of-work
shape_of-work c = c.loop-grown.invariant.kept.long

pub returns : goal.returns
returns c =
    let a = c.args in
    let loop = c.loop-grown in
    growing_end a.table.now a.finals a.states a.nodes a.work.now loop.work loop.grown c.requires
    loop.invariant (omega arith)
