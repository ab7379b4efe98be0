-- `rulereads::table_in` meets its contract: the table of the rule's part of the buffer.
-- Assumes nothing.
use Rattle.buffer.specs.Views.{rule_rows_in}
use Rattle.rulereads.proofs.table_in.Goals as goal

pub returns : goal.returns
unfolding rule_rows_in
returns c = c.table_of.ensures
