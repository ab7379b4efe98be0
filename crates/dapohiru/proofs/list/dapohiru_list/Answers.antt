-- `dapohiru::list::dapohiru_list` meets its contract: the number of the answer, whose length fits, and the buffers as
-- listing left them.
-- Assumes nothing.
use Rattle.refusal.specs.Refusal.{said}
use mathlib.Core.Path.{sym, ap, subst, ◌∙◌}
use mathlib.Core.Bool.{◌||◌}
use lib.Dec.{ltb}
use lib.ListN.{length}
use Rattle.reasons.proofs.ReasonsLaws.{said_by_reason}
use Rattle.buffer.specs.Buffer.{work_size}
use Rattle.listoutcome.specs.ListCall.{listing_size, list_number}
use Rattle.answernumbers.specs.Fits.{ListedFits}
use Rattle.dapohiru.proofs.FitsLaws.{listed_fits}
use Rattle.dapohiru.proofs.list.dapohiru_list.Goals as goal

pub of_listed-requires : goal.of_listed-requires
of_listed-requires c =
    let x = c.args in
    let r = c.list_job in
    subst ListedFits (sym (said_by_reason r.result))
    (listed_fits x.job.now (ltb (length x.work.now) work_size || ltb (length x.listing.now) listing_size) (said r.result) r.ensures.0)

pub returns : goal.returns
returns c =
    let r = c.list_job in
    (c.of_listed.ensures ∙ ap list_number (said_by_reason r.result ∙ r.ensures.0), r.ensures.1, r.ensures.2)
