-- `rowsrule::lacks_mark` meets its contract.
-- Invariant: the pairs of the state with the first c symbols have marks.
-- Assumes nothing.
use mathlib.Core.Path.{◌≡◌}
use mathlib.Core.Bool.{Bool, false}
use mathlib.Core.List.{List}
use Prim.Native.Nat.{ℕ, ◌≤◌}
use lib.Dec.{eqb}
use Rattle.laws.specs.Bounded.{any_below}
use Rattle.rulerows.specs.Inner.{mark_at}
use Rattle.rowsrule.proofs.lacks_mark.Given as goal

-- the pair has no mark
abbrev pub unmarked : List ℕ → ℕ → ℕ → Bool
unmarked marks q c = eqb (mark_at marks q c) 0

abbrev pub invariant-loop-c : goal.invariant-loop-c
invariant-loop-c l = (l.c ≤ l.symbols) × (any_below l.c (unmarked l.marks l.state) ≡ false)
