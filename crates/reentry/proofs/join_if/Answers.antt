-- `reentry::join_if` meets its contract: a node that does not pass joins nothing.
-- Assumes nothing.
use mathlib.Core.Path.{sym, ◌∙◌}
use Rattle.reentry.proofs.ReentryLaws.{if_not, if_so}
use Rattle.reentry.proofs.join_if.Goals as goal

pub returns-then-not-passes : goal.returns-then-not-passes
returns-then-not-passes g c = if_not (sym c.passes.ensures ∙ c.if-not-passes.true)

pub shape_of-work : goal.shape_of-work
shape_of-work g c = c.join_rows.ensures.grown.kept.long

pub returns : goal.returns
returns g c = if_so (sym c.passes.ensures ∙ c.if-not-passes.false) c.join_rows.ensures
