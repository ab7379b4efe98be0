-- `positionsets::union_of` meets its contract.
-- Invariant: `rest` is the members from some position on, and `out` is the union over those before it.
-- Measure: the set that is left, as a number. Each turn is one step of the walk.
-- Assumes nothing.
use native.Mathlib.Omega.{arith}
use Rattle.laws.proofs.Walk.{rest_lt, clear_lt}
use Rattle.positionsets.proofs.NumberLaws.{joined_none, joined_more, joined_all}
use Rattle.positionsets.proofs.union_of.Goals as goal

pub loop-rest-init : goal.loop-rest-init
loop-rest-init c = joined_none c.args.follow.now c.args.set c.ranges.set.fits

pub overflow_cast-q : goal.overflow_cast-q
overflow_cast-q c = let inv = c.loop-rest.invariant in record { fits = omega (arith, rest_lt inv.left (omega arith)) }

pub offset_bounds-follow-q : goal.offset_bounds-follow-q
offset_bounds-follow-q c = let inv = c.loop-rest.invariant in record { fits = omega (arith, rest_lt inv.left (omega arith)) }

pub bounds-follow-q : goal.bounds-follow-q
bounds-follow-q c =
    let l = c.loop-rest in
    omega (arith, rest_lt l.invariant.left (omega arith), c.requires)

pub loop-rest-smaller : goal.loop-rest-smaller
loop-rest-smaller c = clear_lt c.loop-rest.rest (omega arith)

pub loop-rest-preserved : goal.loop-rest-preserved
loop-rest-preserved c =
    let l = c.loop-rest in
    let z = c.args in
    joined_more z.follow.now z.set l.out l.rest (omega arith) l.invariant

pub returns : goal.returns
returns c =
    let l = c.loop-rest in
    let z = c.args in
    joined_all z.follow.now z.set l.out l.rest c.requires (omega arith) l.invariant
