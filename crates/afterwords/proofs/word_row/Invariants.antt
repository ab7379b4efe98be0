-- `afterwords::word_row` meets its contract.
-- Invariant: `rest` is the symbols from some number on, and `out` the states told apart by those before it.
-- Measure: the set that is left, as a number. Each turn is one step of the walk.
-- Assumes nothing.
use Prim.Native.Nat.{ℕ}
use Rattle.classes.specs.Backwards.{apart_by, rows_of}
use Rattle.classes.proofs.WordLaws.{WalkedRow}
use Rattle.afterwords.proofs.word_row.Given as goal

abbrev pub invariant-loop-rest : goal.invariant-loop-rest
invariant-loop-rest l =
    WalkedRow l.states l.set (λ (a : ℕ). apart_by l.table l.finals (rows_of l.rows) a l.p) l.out l.rest

abbrev pub decreases-loop-rest : goal.decreases-loop-rest
decreases-loop-rest l = l.rest
