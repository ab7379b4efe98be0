-- `beforestore::store_before` meets its contract.
-- Invariant: the before sets of the nodes before n are stored.
-- Assumes nothing.
use native.Mathlib.Omega.{arith}
use Rattle.found.proofs.FoundLaws.{stored_start, stored_more, stored_end}
use Rattle.beforestore.proofs.store_before.Goals as goal

pub loop-n-init : goal.loop-n-init
loop-n-init c = stored_start _ _

pub held_states-states_held-requires : goal.held_states-states_held-requires
held_states-states_held-requires c =
    let p = c.requires in
    (omega (arith, c.loop-n.invariant.kept.long, p), (omega (arith, p), p.1.0))

pub write16-requires : goal.write16-requires
write16-requires c =
    omega (arith, c.loop-n.invariant.kept.long, c.requires)

pub loop-n-preserved : goal.loop-n-preserved
loop-n-preserved c =
    let l = c.loop-n in
    let p = c.requires in
    stored_more p.0 p.1.0 (omega (arith, p.1.1)) l.invariant c.held_states-states_held.ensures c.write16.ensures

pub shape_of-work : goal.shape_of-work
shape_of-work c = c.loop-n.invariant.kept.long

pub returns : goal.returns
returns c = stored_end (omega arith) c.loop-n.invariant
