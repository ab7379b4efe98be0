-- `expressionparts::links::with_stars` meets its contract.
-- Invariant: the stars before `end` are read, the first of which has linked the part to itself: the others change nothing.
-- Measure: what is left of the text, which a star is part of.
-- Assumes nothing.
use Prim.Native.Nat.{◌-◌}
use lib.ListN.{length}
use Rattle.expressionparts.proofs.PartLaws.{Starring}
use Rattle.expressionparts.proofs.links.with_stars.Given as goal

abbrev pub invariant-loop-end : goal.invariant-loop-end
invariant-loop-end l = Starring l.text l.d l.follow l.end

abbrev pub decreases-loop-end : goal.decreases-loop-end
decreases-loop-end l = length l.text - l.end
