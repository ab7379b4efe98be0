-- `positionsets::places_of` meets its contract.
-- Invariant: out has the positions below q where the letter stands.
-- Assumes nothing.
use mathlib.Core.Path.{◌≡◌}
use Rattle.expression.specs.Masks.{places_of}
use Rattle.positionsets.proofs.places_of.Given as goal

abbrev pub invariant-loop-q : goal.invariant-loop-q
invariant-loop-q l = l.out ≡ places_of l.text l.q l.symbol
