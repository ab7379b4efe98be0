-- `clearing::clear` meets its contract: the first 65,536 bytes are zero, and the rest as it was.
-- Assumes nothing.
use Rattle.buffer.proofs.ClearedLaws.{zeroed_cleared}
use Rattle.clearing.proofs.clear.Goals as goal

pub returns : goal.returns
returns c =
    zeroed_cleared c.args.work.now c.clear_part.new.work c.requires c.clear_part.ensures
