-- `images::preimage_under` meets its contract.
-- Invariant: bit i of `out` says whether the symbol leads state q + i, one below S, into the set.
-- Each turn moves `out` up by one and joins the bit of the state led to.
-- Assumes nothing.
use mathlib.Core.Path.{◌≡◌}
use mathlib.Core.Bool.{Bool, ◌&&◌}
use mathlib.Core.List.{List}
use Prim.Native.Nat.{ℕ, ◌+◌, ◌^◌, ◌≤◌, ◌<◌}
use lib.Dec.{ltb}
use Rattle.laws.specs.Bits.{has}
use Rattle.automaton.specs.Automaton.{cell}
use Rattle.images.proofs.preimage_under.Given as goal

-- the bit of one state
abbrev pub led : List (List ℕ) → ℕ → ℕ → ℕ → ℕ → Bool
led table states a s q = ltb q states && has s (cell table q a)

-- out is right for the states from q on
pub record Looked (table : List (List ℕ)) (states a s out q : ℕ) : Type 0 where
  pub within : q ≤ states
  pub small : out < 2 ^ 16
  pub exact : (i : ℕ) → i < 16 → has out i ≡ led table states a s (q + i)

abbrev pub invariant-loop-q : goal.invariant-loop-q
invariant-loop-q l = Looked l.table l.states l.a l.s l.out l.q
