-- `successors::join_rows` meets its contract.
-- Invariant: the rows below p are joined, and nothing else is new.
-- Each turn is one step of `JoiningRows`.
-- Assumes nothing.
use native.Mathlib.Omega.{arith}
use mathlib.Core.Path.{refl}
use Rattle.successors.proofs.SuccessorLaws.{rows_start, rows_joined, rows_end}
use Rattle.successors.proofs.join_rows.Goals as goal

pub loop-p-init : goal.loop-p-init
loop-p-init c = rows_start _ _ _

pub join_pairs-requires : goal.join_pairs-requires
join_pairs-requires c =
    (omega (arith, c.requires.0, c.loop-p.invariant.grown.kept.long), (c.requires.1, omega arith))

pub loop-p-preserved : goal.loop-p-preserved
loop-p-preserved c =
    rows_joined c.requires.1 c.loop-p.invariant refl
    c.join_pairs.ensures

pub shape_of-work : goal.shape_of-work
shape_of-work c = c.loop-p.invariant.grown.kept.long

pub returns : goal.returns
returns c = rows_end c.loop-p.invariant (omega arith)
