-- `beforesets::find_before` meets its contract: all points watched, so the search leaves at each point the states that arrive.
-- Assumes nothing.
use Rattle.found.proofs.FoundLaws.{all_usable, before_searched}
use Rattle.beforesets.proofs.find_before.Goals as goal

pub is_faithful-requires : goal.is_faithful-requires
is_faithful-requires c =
    all_usable c.requires c.enable_all.ensures

pub returns : goal.returns
returns c =
    before_searched c.requires c.enable_all.ensures c.is_faithful.ensures
    c.store_before.ensures
