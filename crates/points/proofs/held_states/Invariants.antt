-- `points::held_states` meets its contract.
-- Invariant: `out` is the states below q whose rows hold pairs.
-- Assumes nothing.
use mathlib.Core.Path.{◌≡◌}
use mathlib.Core.Bool.{Bool, not}
use mathlib.Core.List.{List}
use Prim.Native.Nat.{ℕ}
use lib.Dec.{eqb}
use Rattle.job.specs.Found.{set_of}
use Rattle.buffer.specs.Views.{pair_row_in}
use Rattle.points.proofs.held_states.Given as goal

-- the row of q holds pairs
abbrev pub holds : List ℕ → ℕ → ℕ → Bool
holds work n q = not (eqb (pair_row_in work n q) 0)

abbrev pub invariant-loop-q : goal.invariant-loop-q
invariant-loop-q l = l.out ≡ set_of l.q (holds l.work l.n)
