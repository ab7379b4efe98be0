-- `statenumbers::final_states` meets its contract.
-- Invariant: out has the final states before q.
-- Assumes nothing.
use native.Mathlib.Omega.{arith}
use Rattle.statenumbers.proofs.FinalLaws.{looked_none, looked_more}
use Rattle.statenumbers.proofs.final_states.Goals as goal

pub loop-q-init : goal.loop-q-init
loop-q-init c = let z = c.args in looked_none z.lasts z.sets.now z.count

pub loop-q-preserved : goal.loop-q-preserved
loop-q-preserved c =
    let l = c.loop-q in
    let z = c.args in
    looked_more z.lasts z.sets.now z.count l.q l.out c.set_when-out.result c.loop-q-test.true
    (omega (arith, c.loop-q-test.true, c.requires.0)) c.set_when-out.ensures l.invariant
