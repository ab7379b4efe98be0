-- `classreads::lowest_states` meets its contract.
-- Invariant: `out` is the lowest states below q, and `apart` the states told apart from every state below q.
-- Each turn keeps bit q of `apart`, then cuts `apart` by row q.
-- Assumes nothing.
use mathlib.Core.Path.{◌≡◌}
use mathlib.Core.Bool.{Bool}
use mathlib.Core.List.{List}
use Prim.Native.Nat.{ℕ, ◌<◌}
use Rattle.laws.specs.Bounded.{all_below}
use Rattle.laws.specs.Bits.{has}
use Rattle.job.specs.Found.{set_of}
use Rattle.buffer.specs.Views.{class_row_in}
use Rattle.classes.specs.Backwards.{is_lowest}
use Rattle.classreads.proofs.lowest_states.Given as goal

-- i is told apart from every state below q
abbrev pub cleared : List ℕ → ℕ → ℕ → ℕ → Bool
cleared work n q i = all_below q (λ (p : ℕ). has (class_row_in work n p) i)

-- out and apart are right for the states below q
pub record Looked (work : List ℕ) (n out apart q : ℕ) : Type 0 where
  pub exact : out ≡ set_of q (is_lowest work n)
  pub others : (i : ℕ) → i < 16 → has apart i ≡ cleared work n q i

abbrev pub invariant-loop-q : goal.invariant-loop-q
invariant-loop-q l = Looked l.work l.n l.out l.apart l.q
