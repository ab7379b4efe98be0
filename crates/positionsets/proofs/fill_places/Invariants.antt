-- `positionsets::fill_places` meets its contract.
-- Invariant: the positions of the symbols before s are filled in.
-- Assumes nothing.
use Rattle.positionsets.proofs.NumberLaws.{Filled}
use Rattle.positionsets.proofs.fill_places.Given as goal

abbrev pub invariant-loop-s : goal.invariant-loop-s
invariant-loop-s l = Filled l.text l.symbols l.initial.places l.places l.s
