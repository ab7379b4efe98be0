-- `sets::without_lowest` meets its contract: the set is not empty, so that 1 can be taken off it.
-- Assumes nothing.
use mathlib.Core.Path.{refl}
use Rattle.sets.proofs.without_lowest.Goals as goal

pub returns : goal.returns
returns c = refl
