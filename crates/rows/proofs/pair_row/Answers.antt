-- `rows::pair_row` meets its contract: the row is the number in its two bytes.
-- Assumes nothing.
use Rattle.buffer.specs.Views.{pair_row_in}
use Rattle.rows.proofs.pair_row.Goals as goal

pub returns : goal.returns
unfolding pair_row_in
returns c = c.read16.ensures
