-- `sets::lowest` meets its contract: `trailing_zeros` is the count of the zeros below the lowest member.
-- Assumes nothing.
use mathlib.Core.Path.{refl}
use Rattle.sets.proofs.lowest.Goals as goal

pub returns : goal.returns
returns c = refl
