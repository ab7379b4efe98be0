-- `positionsets::places_of` meets its contract.
-- Invariant: out has the positions below q where the letter stands.
-- Assumes nothing.
use native.Mathlib.Omega.{arith}
use Rattle.positionsets.proofs.NumberLaws.{places_none, places_more}
use Rattle.positionsets.proofs.places_of.Goals as goal

pub loop-q-init : goal.loop-q-init
loop-q-init c = places_none c.args.text.now c.args.symbol

pub loop-q-preserved : goal.loop-q-preserved
loop-q-preserved c =
    let l = c.loop-q in
    let z = c.args in
    places_more z.text.now z.symbol l.q l.out c.set_when-out.result (omega (arith, c.loop-q-test.true, c.requires.0)) l.invariant
    c.set_when-out.ensures
