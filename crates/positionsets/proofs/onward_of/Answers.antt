-- `positionsets::onward_of` meets its contract: the first positions from the start, those that follow from another state.
-- Assumes nothing.
use Rattle.expressionrule.proofs.GrowLaws.{onward_start, onward_set}
use Rattle.positionsets.proofs.onward_of.Goals as goal

pub returns-then-q-eq0 : goal.returns-then-q-eq0
returns-then-q-eq0 c =
    let z = c.args in
    onward_start z.follow.now z.firsts z.sets.now z.q c.if-q-eq0.true

pub returns-else-q-eq0 : goal.returns-else-q-eq0
returns-else-q-eq0 c =
    let z = c.args in
    onward_set z.follow.now z.firsts z.sets.now z.q c.union_of.result c.if-q-eq0.false c.union_of.ensures
