-- `successors::join_successors` meets its contract.
-- Invariant: the rows are joined at the ends of the edges of the node below i, and nothing else is new.
-- Each turn is one step of `Joining`.
-- Assumes nothing.
use native.Mathlib.Omega.{arith}
use Rattle.successors.proofs.SuccessorLaws.{joining_start, index_within, target_within, joining_more, joining_end}
use Rattle.successors.proofs.join_successors.Goals as goal

pub loop-i-init : goal.loop-i-init
loop-i-init c = joining_start _ _ _ _ c.start_at-i.ensures

pub target_at-m-requires : goal.target_at-m-requires
target_at-m-requires c = (
  omega (arith, c.loop-i.invariant.grown.kept.long),
  index_within _ _ _ _ c.requires.1.1 c.start_at-end.ensures c.loop-i-test.true,
)

pub join_rows-requires : goal.join_rows-requires
join_rows-requires c = (
  omega (arith, c.loop-i.invariant.grown.kept.long),
  target_within c.requires.1.1 c.start_at-end.ensures
      c.loop-i.invariant c.loop-i-test.true c.target_at-m.ensures,
)

pub loop-i-preserved : goal.loop-i-preserved
loop-i-preserved c =
    joining_more c.requires.1.1 c.start_at-end.ensures
    c.loop-i.invariant c.loop-i-test.true
    c.target_at-m.ensures _ c.join_rows.ensures

pub shape_of-work : goal.shape_of-work
shape_of-work c = c.loop-i.invariant.grown.kept.long

pub returns : goal.returns
returns c =
    joining_end _ _ _ _ _ _ c.start_at-end.ensures c.loop-i.invariant (omega arith)
