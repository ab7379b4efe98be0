-- `classrows::join_class_rows` meets its contract.
-- Invariant: the rows below p are joined, `grown` of them grew, and nothing else is new.
-- Each turn is one step of `JoiningApart`.
-- Assumes nothing.
use mathlib.Core.Path.{refl}
use native.Mathlib.Omega.{arith}
use Rattle.buffer.proofs.ClassRowLaws.{apart_left_small, joining_none, joining_more, joining_end}
use Rattle.classrows.proofs.join_class_rows.Goals as goal

pub loop-p-init : goal.loop-p-init
loop-p-init c = joining_none _ _ _

pub join_classes-grown-requires : goal.join_classes-grown-requires
join_classes-grown-requires c =
    (omega (arith, c.requires.0, c.loop-p.invariant.kept.long), (c.requires.1, omega arith))

pub overflow_add-grown : goal.overflow_add-grown
overflow_add-grown c =
    omega (arith, c.loop-p.invariant.left, c.join_classes-grown.ensures.left, apart_left_small c.args.work.now)

pub loop-p-preserved : goal.loop-p-preserved
loop-p-preserved c =
    joining_more c.requires.1 c.loop-p.invariant refl c.join_classes-grown.ensures

pub shape_of-work : goal.shape_of-work
shape_of-work c = c.loop-p.invariant.kept.long

pub returns : goal.returns
returns c = joining_end c.loop-p.invariant (omega arith)
