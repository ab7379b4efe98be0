-- `points::is_nop` meets its contract.
-- Invariant: `rest` is the members from some number on, and the mark holds for the members before it.
-- Measure: the set that is left, as a number. Each turn is one step of the walk; a member without the mark ends it.
-- Assumes nothing.
use native.Mathlib.Omega.{arith}
use Rattle.laws.proofs.Walk.{rest_lt, clear_lt}
use Rattle.points.proofs.is_nop.Invariants.{walk_start, turn, end_final, end_apart, end_all}
use Rattle.points.proofs.is_nop.Goals as goal

pub loop-rest-init : goal.loop-rest-init
loop-rest-init c =
    let args = c.args in
    walk_start args.table.now args.finals args.work.now args.n args.a args.before c.ranges.before.fits

pub next_state-to-requires : goal.next_state-to-requires
next_state-to-requires c = (
  omega (arith, c.lowest-q.ensures, rest_lt c.loop-rest.invariant.left (omega arith)),
  c.requires.1.1,
)

pub contains-requires : goal.contains-requires
contains-requires c = c.next_state-to.ensures.1

pub returns-then-contains : goal.returns-then-contains
returns-then-contains c =
    let loop = c.loop-rest in
    end_final _ _ _ _ _ _ loop.rest _ _ _ loop.invariant (omega arith)
    c.lowest-q.ensures c.next_state-to.ensures.0 c.contains.ensures
    c.if-contains.true

pub class_row-requires : goal.class_row-requires
class_row-requires c =
    let pre = c.requires in
    (pre.0, (pre.1.0, c.next_state-to.ensures.1))

pub contains-requires-in-loop-rest : goal.contains-requires-in-loop-rest
contains-requires-in-loop-rest c =
    let loop = c.loop-rest in
    omega (arith, c.lowest-q.ensures, rest_lt loop.invariant.left (omega arith))

pub returns-then-contains-2 : goal.returns-then-contains-2
returns-then-contains-2 c =
    let loop = c.loop-rest in
    end_apart _ _ _ _ _ _ loop.rest _ _ _ _ _ loop.invariant (omega arith)
    c.lowest-q.ensures
    c.next_state-to.ensures.0
    c.contains.ensures c.if-contains.false
    c.class_row.ensures c.contains-in-loop-rest.ensures c.if-contains-2.true

pub loop-rest-smaller : goal.loop-rest-smaller
loop-rest-smaller c =
    let loop = c.loop-rest in
    rw c.without_lowest-rest.ensures (clear_lt loop.rest (omega arith))

pub loop-rest-preserved : goal.loop-rest-preserved
loop-rest-preserved c =
    let loop = c.loop-rest in
    turn _ _ _ _ _ _ loop.rest _ _ _ _ _ _ loop.invariant (omega arith)
    c.lowest-q.ensures
    c.next_state-to.ensures.0
    c.contains.ensures c.if-contains.false
    c.class_row.ensures c.contains-in-loop-rest.ensures c.if-contains-2.false
    c.without_lowest-rest.ensures

pub returns : goal.returns
returns c = end_all _ _ _ _ _ _ c.loop-rest.rest c.loop-rest.invariant (omega arith)
