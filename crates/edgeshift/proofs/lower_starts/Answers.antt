-- `edgeshift::lower_starts` meets its contract.
-- Invariant: of the part of the starts after node b, those before the index are one less.
-- Assumes nothing.
use Prim.Native.Nat.{◌+◌, ◌-◌}
use native.Mathlib.Omega.{arith}
use borrow.Author.Rules.{rules}
use Rattle.arrivals.specs.Shifts.{lowered}
use Rattle.edgeshift.proofs.ShiftLaws.{changed_done}
use Rattle.edgeshift.proofs.lower_starts.Goals as goal

pub returns : goal.returns
unfolding lowered
returns c =
    let x = c.args in
    let l = c.loop-start in
    changed_done x.starts.now l.start-items x.b x.nodes (x.nodes + 1 - (x.b + 1)) l.start-index (λ m. m - 1) (search rules) (search rules)
    (omega arith) (omega arith) l.invariant
