-- `nodereads::is_exit` meets its contract: the mark of an exit is 1.
-- Assumes nothing.
use mathlib.Core.Path.{refl}
use Rattle.buffer.specs.Views.{node_in}
use Rattle.nodereads.proofs.is_exit.Goals as goal

pub returns : goal.returns
unfolding node_in
returns c = refl
