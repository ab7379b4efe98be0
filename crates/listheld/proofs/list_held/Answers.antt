-- `listheld::list_held` meets its contract: what is found is the job's, and its lines are written.
-- Assumes nothing.
use Rattle.tables.proofs.JobKeptLaws.{table_usable}
use Rattle.listheld.proofs.HeldLaws.{lines_ready, listed_held}
use Rattle.listheld.proofs.list_held.Goals as goal

pub find-counts-requires : goal.find-counts-requires
find-counts-requires c =
    let p = c.requires in
    (p.0, table_usable c.table_in-table.ensures p.1.1.0)

pub write_listing-requires : goal.write_listing-requires
write_listing-requires c =
    let p = c.requires in
    lines_ready c.table_in-table.ensures p.1.1.0 c.find-counts.ensures c.args.listing.now p.1.0 p.1.1.1

pub returns : goal.returns
returns c =
    listed_held c.table_in-table.ensures c.requires.1.1.0 c.find-counts.ensures
    c.write_listing.ensures
