-- `rulestore::are_below` meets its contract.
-- Invariant: the first c next states are below S.
-- Assumes nothing.
use Prim.Native.Nat.{ℕ, ◌+◌, ◌≤◌}
use mathlib.Core.Path.{◌≡◌}
use mathlib.Core.Bool.{true}
use lib.Dec.{ltb}
use lib.ListN.{get_or}
use Rattle.laws.specs.Bounded.{all_below}
use Rattle.rulestore.proofs.are_below.Given as goal

abbrev pub invariant-loop-c : goal.invariant-loop-c
invariant-loop-c l = (l.c ≤ l.symbols) × (all_below l.c (λ (k : ℕ). ltb (get_or l.numbers (k + 2) 0) l.states) ≡ true)
