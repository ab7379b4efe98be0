-- `spread::spread` meets its contract.
-- Invariant: the row was moved by the symbols before some number and joined, all alarming alike; `rest` is the symbols from it on.
-- Measure: the set that is left, as a number. Each turn is one step of `Spreading`.
-- Assumes nothing.
use borrow.Author.Rules.{rules}
use native.Mathlib.Omega.{arith}
use Rattle.laws.proofs.Walk.{rest_lt, clear_lt}
use Rattle.spread.proofs.SpreadLaws.{spreading_start, spreading_split, spreading_more, spreading_end}
use Rattle.spread.proofs.spread.Goals as goal

pub loop-rest-init : goal.loop-rest-init
loop-rest-init c = spreading_start _ _ _ _ _ _ _ c.ranges.set.fits

pub next_state-state-requires : goal.next_state-state-requires
next_state-state-requires c =
    (search rules, (omega (arith, rest_lt c.loop-rest.invariant.left (omega arith)), c.requires.1.1.1))

pub image_under-moved-requires : goal.image_under-moved-requires
image_under-moved-requires c =
    (omega (arith, rest_lt c.loop-rest.invariant.left (omega arith)), c.requires.1.1.1)

pub unlike_states-requires : goal.unlike_states-requires
unlike_states-requires c = c.next_state-state.ensures.1

pub shape_of-work-then-moved-unlike_states-ne0 : goal.shape_of-work-then-moved-unlike_states-ne0
shape_of-work-then-moved-unlike_states-ne0 c = c.loop-rest.invariant.grown.kept.long

pub returns-then-moved-unlike_states-ne0 : goal.returns-then-moved-unlike_states-ne0
returns-then-moved-unlike_states-ne0 c =
    spreading_split _ _ _ _ _ _ _ _ _ _ _ _ _ c.requires.1.1.1 c.requires.1.0 c.requires.1.1.0 c.ranges.s.fits
    c.loop-rest.invariant (omega arith) c.lowest-a.ensures
    c.next_state-state.ensures.0 c.image_under-moved.ensures
    c.unlike_states.ensures c.if-moved-unlike_states-ne0.true

pub join_pairs-requires : goal.join_pairs-requires
join_pairs-requires c = (
  omega (arith, c.loop-rest.invariant.grown.kept.long),
  (search rules, c.next_state-state.ensures.1),
)

pub loop-rest-smaller : goal.loop-rest-smaller
loop-rest-smaller c =
    let loop = c.loop-rest in
    rw c.without_lowest-rest.ensures (clear_lt loop.rest (omega arith))

pub loop-rest-preserved : goal.loop-rest-preserved
loop-rest-preserved c =
    spreading_more _ _ _ _ _ _ _ _ _ _ _ _ _ c.requires.1.1.1 c.requires.1.0 c.requires.1.1.0 c.ranges.s.fits
    c.loop-rest.invariant (omega arith) c.lowest-a.ensures
    c.next_state-state.ensures.0 c.image_under-moved.ensures
    c.unlike_states.ensures _ _ c.if-moved-unlike_states-ne0.false
    c.join_pairs.ensures c.without_lowest-rest.ensures

pub shape_of-work : goal.shape_of-work
shape_of-work c = c.loop-rest.invariant.grown.kept.long

pub returns : goal.returns
returns c = spreading_end _ _ _ _ _ _ _ _ _ c.loop-rest.invariant (omega arith)
