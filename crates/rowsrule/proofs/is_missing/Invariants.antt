-- `rowsrule::is_missing` meets its contract.
-- Invariant: the pairs of the first q states have marks.
-- Assumes nothing.
use mathlib.Core.Path.{◌≡◌}
use mathlib.Core.Bool.{Bool, false}
use mathlib.Core.List.{List}
use Prim.Native.Nat.{ℕ, ◌≤◌}
use lib.Dec.{eqb}
use Rattle.laws.specs.Bounded.{any_below}
use Rattle.rulerows.specs.Inner.{mark_at}
use Rattle.rowsrule.proofs.is_missing.Given as goal

-- a pair of the state has no mark
abbrev pub lacking : List ℕ → ℕ → ℕ → Bool
lacking marks symbols q = any_below symbols (λ c. eqb (mark_at marks q c) 0)

abbrev pub invariant-loop-q : goal.invariant-loop-q
invariant-loop-q l = (l.q ≤ l.rows) × (any_below l.q (lacking l.marks l.symbols) ≡ false)
