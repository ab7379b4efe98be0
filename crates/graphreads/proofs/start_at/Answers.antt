-- `graphreads::start_at` meets its contract: the index is the number in its two bytes.
-- Assumes nothing.
use Rattle.buffer.specs.Views.{start_in}
use Rattle.graphreads.proofs.start_at.Goals as goal

pub returns : goal.returns
unfolding start_in
returns c = c.read16.ensures
