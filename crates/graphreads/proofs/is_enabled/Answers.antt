-- `graphreads::is_enabled` meets its contract: the byte of an enabled node is 1.
-- Assumes nothing.
use mathlib.Core.Path.{refl}
use Rattle.buffer.specs.Views.{enabled_in}
use Rattle.graphreads.proofs.is_enabled.Goals as goal

pub returns : goal.returns
unfolding enabled_in
returns c = refl
