-- `listlines::write_points` meets its contract.
-- Invariant: the lines of the nodes before n are stored, and storing the others from `at` on leaves what storing all leaves.
-- Assumes nothing.
use Rattle.listingtext.proofs.TextLaws.{LinesStored}
use Rattle.listlines.proofs.write_points.Given as goal

abbrev pub invariant-loop-n : goal.invariant-loop-n
invariant-loop-n l = LinesStored l.table l.finals l.states l.nodes l.work l.initial.out l.out l.at l.n
