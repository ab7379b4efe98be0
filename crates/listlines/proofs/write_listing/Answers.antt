-- `listlines::write_listing` meets its contract: the W lines, and the T line after them.
-- Assumes nothing.
use Rattle.listingtext.proofs.TextLaws.{lines_written}
use Rattle.listlines.proofs.write_listing.Goals as goal

pub returns : goal.returns
returns c =
    lines_written c.write_points-at.ensures c.write_total_line.ensures
