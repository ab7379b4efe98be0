-- `afterwords::word_row` meets its contract.
-- Invariant: `rest` is the symbols from some number on, and `out` the states told apart by those before it.
-- Measure: the set that is left, as a number. Each turn is one step of the walk.
-- Assumes nothing.
use mathlib.Core.Path.{refl}
use Prim.Native.Nat.{ℕ}
use native.Mathlib.Omega.{arith}
use borrow.Author.Rules.{rules}
use Rattle.laws.proofs.Walk.{rest_lt, clear_lt}
use Rattle.classes.specs.Backwards.{apart_by, rows_of}
use Rattle.classes.proofs.WordLaws.{walked_start, word_turn, word_done}
use Rattle.afterwords.proofs.word_row.Goals as goal

pub loop-rest-init : goal.loop-rest-init
loop-rest-init c =
    let a = c.args in
    walked_start a.states a.set (λ (x : ℕ). apart_by a.table.now a.finals (rows_of a.rows.now) x a.p) c.ranges.set.fits

pub next_state-state-requires : goal.next_state-state-requires
next_state-state-requires c =
    let pre = c.requires in
    (pre.1.0, (omega (arith, rest_lt c.loop-rest.invariant.left (omega arith), c.lowest-a.ensures), pre.1.1.1))

pub offset_bounds-rows-state : goal.offset_bounds-rows-state
offset_bounds-rows-state c = search (rules, c.next_state-state.ensures.1)

pub bounds-rows-state : goal.bounds-rows-state
bounds-rows-state c = search (rules, c.next_state-state.ensures.1)

pub unlike_states-requires : goal.unlike_states-requires
unlike_states-requires c = c.next_state-state.ensures.1

pub preimage_under-out-requires : goal.preimage_under-out-requires
preimage_under-out-requires c =
    let pre = c.requires in (
      pre.1.1.0,
      (
        omega (arith, rest_lt c.loop-rest.invariant.left (omega arith), c.lowest-a.ensures),
        pre.1.1.1,
      ),
    )

pub loop-rest-smaller : goal.loop-rest-smaller
loop-rest-smaller c =
    let loop = c.loop-rest in
    rw c.without_lowest-rest.ensures (clear_lt loop.rest (omega arith))

pub loop-rest-preserved : goal.loop-rest-preserved
loop-rest-preserved c =
    let loop = c.loop-rest in
    let a = c.args in
    let state = c.next_state-state in
    word_turn a.table.now a.finals a.states (rows_of a.rows.now) a.set a.p loop.out loop.rest
    c.lowest-a.result state.result (rows_of a.rows.now state.result)
    c.unlike_states.result c.preimage_under-out.result c.without_lowest-rest.result loop.invariant (omega arith)
    c.lowest-a.ensures state.ensures.0 refl c.unlike_states.ensures
    c.preimage_under-out.ensures c.without_lowest-rest.ensures

pub returns : goal.returns
returns c =
    let a = c.args in
    word_done a.table.now a.finals a.states (rows_of a.rows.now) a.set a.p c.loop-rest.out c.loop-rest.rest
    c.loop-rest.invariant (omega arith)
