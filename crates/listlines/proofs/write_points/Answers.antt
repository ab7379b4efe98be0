-- `listlines::write_points` meets its contract.
-- Invariant: the lines of the nodes before n are stored, and storing the others from `at` on leaves what storing all leaves.
-- Assumes nothing.
use native.Mathlib.Omega.{arith}
use Rattle.listingtext.proofs.TextLaws.{stored_start, stored_more, stored_end}
use Rattle.listlines.proofs.write_points.Goals as goal

pub loop-n-init : goal.loop-n-init
loop-n-init c = stored_start _ _ _ _ _ _

pub write_point-at-requires : goal.write_point-at-requires
write_point-at-requires c =
    let p = c.requires in
    let inv = c.loop-n.invariant in
    (p.0, (omega (arith, p.1.0), (p.1.1.0, (p.1.1.1.0, omega (arith, inv.near, inv.long, p.1.0, p.1.1.1.1)))))

pub loop-n-preserved : goal.loop-n-preserved
loop-n-preserved c =
    let l = c.loop-n in
    stored_more (omega arith) l.invariant c.write_point-at.ensures

pub shape_of-out : goal.shape_of-out
shape_of-out c = c.loop-n.invariant.long

pub returns : goal.returns
returns c =
    let inv = c.loop-n.invariant in
    stored_end (omega (arith, inv.few)) inv
