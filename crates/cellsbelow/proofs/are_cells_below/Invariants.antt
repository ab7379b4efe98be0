-- `cellsbelow::are_cells_below` meets its contract.
-- Invariants: all rows before q pass the test of a row, and in row q all cells before a pass that of a cell.
-- A cell that fails makes its row fail, and the row the whole.
-- Assumes nothing.
use Prim.Native.Nat.{ℕ, ◌≤◌}
use mathlib.Core.Path.{◌≡◌}
use mathlib.Core.Bool.{true}
use Rattle.laws.specs.Bounded.{all_below}
use Rattle.automaton.specs.Automaton.{cell_below}
use Rattle.cellsbelow.proofs.are_cells_below.Given as goal

abbrev pub invariant-loop-a : goal.invariant-loop-a
invariant-loop-a l = (l.a ≤ l.columns) × (all_below l.a (cell_below l.table l.states l.q) ≡ true)

abbrev pub invariant-loop-q : goal.invariant-loop-q
invariant-loop-q l =
    (l.q ≤ l.rows) × (all_below l.q (λ (p : ℕ). all_below l.symbols (cell_below l.table l.states p)) ≡ true)
