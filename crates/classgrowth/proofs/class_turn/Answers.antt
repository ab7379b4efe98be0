-- `classgrowth::class_turn` meets its contract: rows grew over the edges, or those that come back in were looked at.
-- Assumes nothing.
use native.Mathlib.Omega.{arith}
use Rattle.classes.proofs.ClassLaws.{usable_kept, turn_grown, turn_returned}
use Rattle.classgrowth.proofs.class_turn.Goals as goal

pub returns-then-grown-ne0 : goal.returns-then-grown-ne0
returns-then-grown-ne0 c = turn_grown c.class_round-grown.ensures c.if-grown-ne0.true

pub class_returns-requires : goal.class_returns-requires
class_returns-requires c =
    usable_kept c.class_round-grown.ensures.kept c.requires

pub returns : goal.returns
returns c =
    turn_returned c.class_round-grown.ensures
    c.requires (omega arith) c.class_returns.ensures
