-- `classrows::class_row` meets its contract: the row is the number in its two bytes.
-- Assumes nothing.
use Rattle.buffer.specs.Views.{class_row_in}
use Rattle.classrows.proofs.class_row.Goals as goal

pub returns : goal.returns
unfolding class_row_in
returns c = c.read16.ensures
