-- `nodereads::any_reentrant` meets its contract.
-- Invariant: none of the nodes below n may come back in.
-- Assumes nothing.
use mathlib.Core.Path.{◌≡◌}
use mathlib.Core.Bool.{Bool, false}
use mathlib.Core.List.{List}
use Prim.Native.Nat.{ℕ}
use Rattle.laws.specs.Bounded.{any_below}
use Rattle.job.specs.Job.{is_reentrant}
use Rattle.buffer.specs.Views.{node_in}
use Rattle.nodereads.proofs.any_reentrant.Given as goal

-- the test of a node
abbrev pub again : List ℕ → ℕ → Bool
again work n = is_reentrant (node_in work n).kind

abbrev pub invariant-loop-n : goal.invariant-loop-n
invariant-loop-n l = any_below l.n (again l.work) ≡ false
