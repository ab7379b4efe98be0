-- `search::search::differs` meets its contract.
-- Invariant: the rounds so far are one round without a difference.
-- Measure: what is left to the search, less after a round that sees rows.
-- Assumes nothing.
use mathlib.Core.Path.{sym, ◌∙◌}
use mathlib.Core.Bool.{true, false}
use Rattle.tables.proofs.KeptLaws.{usable_same}
use Rattle.rounds.proofs.RoundLaws.{rows_difference}
use Rattle.search.proofs.RoundsLaws.{rounds_none, rounds_more, rounds_end_lem}
use Rattle.search.proofs.search.differs.Goals as goal

pub loop-init : goal.loop-init
loop-init c = rounds_none _

pub round-requires : goal.round-requires
round-requires c = usable_same c.loop.invariant.kept c.requires

pub shape_of-work-in-Nothing : goal.shape_of-work-in-Nothing
shape_of-work-in-Nothing c = c.round.ensures.kept.long ∙ c.loop.invariant.kept.long

pub returns-in-Nothing : goal.returns-in-Nothing
returns-in-Nothing c =
    rounds_end_lem c.requires c.loop.invariant
    c.round.ensures false c.in-Nothing.is

pub loop-smaller : goal.loop-smaller
loop-smaller c = c.round.ensures.left c.in-Rows.is

pub loop-preserved : goal.loop-preserved
loop-preserved c =
    rounds_more c.requires c.loop.invariant
    c.round.ensures (λ e. rows_difference (sym c.in-Rows.is ∙ e))

pub shape_of-work-in-Difference : goal.shape_of-work-in-Difference
shape_of-work-in-Difference c = c.round.ensures.kept.long ∙ c.loop.invariant.kept.long

pub returns-in-Difference : goal.returns-in-Difference
returns-in-Difference c =
    rounds_end_lem c.requires c.loop.invariant
    c.round.ensures true c.in-Difference.is
