-- `images::image_under` meets its contract.
-- Invariant: `rest` is the members from some number on, and `out` is the image of those before it.
-- Measure: the set that is left, as a number. Each turn is one step of the walk.
-- Assumes nothing.
use mathlib.Core.Path.{◌≡◌}
use mathlib.Core.List.{List}
use Prim.Native.Nat.{ℕ, ◌≤◌}
use Rattle.laws.specs.Bits.{image}
use Rattle.laws.proofs.Walk.{Rest}
use Rattle.automaton.specs.Automaton.{cell}
use Rattle.images.proofs.image_under.Given as goal

-- out is right for the members below the number passed
pub record Walked (table : List (List ℕ)) (a s out rest : ℕ) : Type 0 where
  pub passed : ℕ
  pub in_width : passed ≤ 16
  pub left : Rest 16 s rest passed
  pub exact : out ≡ image passed (λ (q : ℕ). cell table q a) s

abbrev pub invariant-loop-rest : goal.invariant-loop-rest
invariant-loop-rest l = Walked l.table l.a l.s l.out l.rest

abbrev pub decreases-loop-rest : goal.decreases-loop-rest
decreases-loop-rest l = l.rest
