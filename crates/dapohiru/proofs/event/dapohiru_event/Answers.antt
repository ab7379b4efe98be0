-- `dapohiru::event::dapohiru_event` meets its contract, which is that of the event step on bytes.
-- Assumes nothing.
use Rattle.dapohiru.proofs.event.dapohiru_event.Goals as goal

pub returns : goal.returns
returns c = c.event.ensures
