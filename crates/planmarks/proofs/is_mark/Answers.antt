-- `planmarks::is_mark` meets its contract: each way out is one case of `good_mark`.
-- Assumes nothing.
use mathlib.Core.Path.{sym, ◌∙◌}
use Rattle.buffer.specs.Views.{node_in}
use Rattle.checking.proofs.PlanLaws.{mark_shadow, mark_other}
use Rattle.planmarks.proofs.is_mark.Goals as goal

pub returns-then-is_shadow : goal.returns-then-is_shadow
returns-then-is_shadow c =
    let x = c.args in
    mark_shadow (node_in x.work.now x.n).kind x.mark (sym c.is_shadow.ensures ∙ c.if-is_shadow.true)

pub returns : goal.returns
returns c =
    let x = c.args in
    mark_other (node_in x.work.now x.n).kind x.mark (sym c.is_shadow.ensures ∙ c.if-is_shadow.false)
