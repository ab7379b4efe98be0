-- `sets::count` meets its contract: the bits set are counted by `count_ones`.
-- Assumes nothing.
use Rattle.laws.proofs.Count.{ones_count}
use Rattle.sets.proofs.count.Goals as goal

pub returns : goal.returns
returns c = ones_count 16 c.args.s c.ranges.s.fits
