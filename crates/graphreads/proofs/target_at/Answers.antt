-- `graphreads::target_at` meets its contract: the end is the number in its two bytes.
-- Assumes nothing.
use Rattle.buffer.specs.Views.{target_in}
use Rattle.graphreads.proofs.target_at.Goals as goal

pub returns : goal.returns
unfolding target_in
returns c = c.read16.ensures
