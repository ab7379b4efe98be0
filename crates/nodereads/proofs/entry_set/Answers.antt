-- `nodereads::entry_set` meets its contract: the set is the number in its two bytes.
-- Assumes nothing.
use Rattle.buffer.specs.Views.{node_in}
use Rattle.nodereads.proofs.entry_set.Goals as goal

pub returns : goal.returns
unfolding node_in
returns c = c.read16.ensures
