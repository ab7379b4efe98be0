-- `starts::start` meets its contract.
-- Invariant: of the emptied rows those of the nodes below n hold their starts, and nothing else is held.
-- Assumes nothing.
use mathlib.Core.Path.{◌∙◌}
use native.Mathlib.Omega.{arith}
use Rattle.starts.proofs.StartedLaws.{starting_none, starting_more, starting_end}
use Rattle.starts.proofs.start.Goals as goal

pub clear_marks-requires : goal.clear_marks-requires
clear_marks-requires c =
    omega (arith, c.clear_pairs.ensures.kept.long, c.requires)

pub loop-n-init : goal.loop-n-init
loop-n-init c = starting_none _

pub start_node-requires : goal.start_node-requires
start_node-requires c =
    let p = c.requires in
    let rows = c.clear_pairs.ensures in
    let marks = c.clear_marks.ensures in
    (omega (arith, c.loop-n.invariant.grown.kept.long, rows.kept.long, marks.kept.long, p), omega (arith, p))

pub loop-n-preserved : goal.loop-n-preserved
loop-n-preserved c =
    let p = c.requires in
    starting_more (omega (arith, p)) c.loop-n.invariant
    (λ i lt. omega (arith, c.slice_known-3-1.given i))
    c.start_node.ensures

pub shape_of-work : goal.shape_of-work
shape_of-work c =
    c.loop-n.invariant.grown.kept.long ∙ c.clear_marks.ensures.kept.long
    ∙ c.clear_pairs.ensures.kept.long

pub returns : goal.returns
returns c =
    starting_end c.clear_pairs.ensures
    c.clear_marks.ensures c.requires.1 (omega arith) c.loop-n.invariant
