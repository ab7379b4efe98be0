-- `cellsbelow::are_cells_below` meets its contract.
-- Invariants: all rows before q pass the test of a row, and in row q all cells before a pass that of a cell.
-- A cell that fails makes its row fail, and the row the whole.
-- Assumes nothing.
use mathlib.Core.Path.{sym}
use borrow.Author.Rules.{rules}
use native.Mathlib.Omega.{arith}
use Rattle.laws.proofs.Bounded.{all_none, all_more, all_end}
use Rattle.automaton.proofs.AutomatonLaws.{cell_fails, cell_high, cell_low}
use Rattle.automaton.specs.Automaton.{cell, cell_below, cells_below}
use Rattle.cellsbelow.proofs.are_cells_below.Goals as goal

pub loop-q-init : goal.loop-q-init
loop-q-init c = (search rules, all_none _)

pub loop-a-init : goal.loop-a-init
loop-a-init c = (search rules, all_none _)

pub returns-then-states-from : goal.returns-then-states-from
unfolding cell
returns-then-states-from c =
    let x = c.args in
    let q = c.loop-q.q in
    let a = c.loop-a.a in
    sym
    (cell_fails x.table.now x.states x.symbols q a (search rules) (search rules)
    (cell_high x.table.now x.states q a c.from.result c.from.ensures c.if-states-from.true))

pub loop-a-preserved : goal.loop-a-preserved
unfolding cell
loop-a-preserved c =
    let x = c.args in
    let q = c.loop-q.q in
    let a = c.loop-a.a in (
      search rules,
      all_more a (cell_below x.table.now x.states q) c.loop-a.invariant.1
          (cell_low x.table.now x.states q a c.from.result c.from.ensures c.if-states-from.false),
    )

pub loop-q-preserved : goal.loop-q-preserved
loop-q-preserved c = (
  search rules,
  all_more _ _ c.loop-q.invariant.1
      (all_end _ _ _ c.loop-a.invariant.1 (omega arith)),
)

pub returns : goal.returns
unfolding cells_below
returns c = sym (all_end _ _ _ c.loop-q.invariant.1 (omega arith))
