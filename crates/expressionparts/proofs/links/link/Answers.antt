-- `expressionparts::links::link` meets its contract.
-- Invariant: the members of `lasts` that are no longer in `rest` are linked, the other positions are as they were.
-- Measure: the set that is left, as a number. Each turn is one step of the walk.
-- Assumes nothing.
use native.Mathlib.Omega.{arith}
use Rattle.laws.proofs.Walk.{rest_lt, clear_lt}
use Rattle.expressionparts.proofs.ReadingLaws.{linking_none, linking_more, linking_all}
use Rattle.expressionparts.proofs.links.link.Goals as goal

pub loop-rest-init : goal.loop-rest-init
loop-rest-init c = linking_none _ _ _ c.ranges.lasts.fits

pub overflow_cast-q : goal.overflow_cast-q
overflow_cast-q c = let inv = c.loop-rest.invariant in record { fits = omega (arith, rest_lt inv.left (omega arith)) }

pub offset_bounds-follow-q : goal.offset_bounds-follow-q
offset_bounds-follow-q c = let inv = c.loop-rest.invariant in record { fits = omega (arith, rest_lt inv.left (omega arith)) }

pub bounds-follow-q : goal.bounds-follow-q
bounds-follow-q c = let inv = c.loop-rest.invariant in omega (arith, rest_lt inv.left (omega arith), inv.long, c.requires)

pub bounds-follow-q-in-loop-rest : goal.bounds-follow-q-in-loop-rest
bounds-follow-q-in-loop-rest c = let inv = c.loop-rest.invariant in omega (arith, rest_lt inv.left (omega arith), inv.long, c.requires)

pub loop-rest-smaller : goal.loop-rest-smaller
loop-rest-smaller c = clear_lt c.loop-rest.rest (omega arith)

pub loop-rest-preserved : goal.loop-rest-preserved
loop-rest-preserved c =
    let l = c.loop-rest in
    linking_more c.args.follow.now l.follow c.args.lasts c.args.firsts l.rest l.invariant (omega arith) c.requires

pub returns : goal.returns
returns c =
    let l = c.loop-rest in
    let z = c.args in
    linking_all z.follow.now l.follow z.lasts z.firsts l.rest l.invariant (omega arith)
