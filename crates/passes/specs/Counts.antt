-- The counts that planning returns (document 01, "Planning").
-- Assumes nothing.
use Rattle.job.specs.Job.{Job}
use Rattle.planning.specs.Planning.{all_enabled, enabled_count}
use Rattle.planning.specs.Listing.{plan_of}
use Rattle.passes.specs.declared.passes.Counts.{Counts}

-- "the counts of event nodes, watched points and passes"
abbrev pub counts_of : Job → Counts
counts_of j =
    record { shadows = enabled_count (all_enabled j); enabled = enabled_count (plan_of j).plan; passes = (plan_of j).passes }
