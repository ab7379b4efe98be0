-- `planmarks::is_plan` meets its contract.
-- Invariant: the first n nodes may have their bytes.
-- Assumes nothing.
use mathlib.Core.Path.{◌≡◌}
use mathlib.Core.Bool.{Bool, true}
use mathlib.Core.List.{List}
use Prim.Native.Nat.{ℕ}
use lib.ListN.{get_or}
use Rattle.laws.specs.Bounded.{all_below}
use Rattle.buffer.specs.Views.{node_in}
use Rattle.checking.specs.Checking.{good_mark}
use Rattle.planmarks.proofs.is_plan.Given as goal

-- node n may have its byte
abbrev pub good : List ℕ → List ℕ → ℕ → Bool
good plan work n = good_mark (node_in work n).kind (get_or plan n 0)

abbrev pub invariant-loop-n : goal.invariant-loop-n
invariant-loop-n l = all_below l.n (good l.plan l.work) ≡ true
