-- `beforestore::before_set` meets its contract.
-- Assumes nothing.
use Rattle.buffer.specs.Views.{before_in}
use Rattle.beforestore.proofs.before_set.Goals as goal

pub returns : goal.returns
unfolding before_in
returns c = c.read16.ensures
