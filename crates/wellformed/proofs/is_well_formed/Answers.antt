-- `wellformed::is_well_formed` meets its contract: each test that fails denies one part of `WellFormed`, and past them the table's test is the whole.
-- Assumes nothing.
use mathlib.Core.Path.{sym, ◌∙◌}
use native.Mathlib.Omega.{arith}
use Rattle.laws.proofs.Bits.{below_says, shr_zero_says}
use Rattle.automaton.proofs.AutomatonLaws.{not_well_formed, fit_all, well_formed_rest}
use Rattle.wellformed.proofs.is_well_formed.Goals as goal

pub returns-then-states-lt1 : goal.returns-then-states-lt1
returns-then-states-lt1 c = not_well_formed _ (λ w. omega arith)

pub returns-then-states-gt16 : goal.returns-then-states-gt16
returns-then-states-gt16 c = not_well_formed _ (λ w. omega arith)

pub returns-then-symbols-lt1 : goal.returns-then-symbols-lt1
returns-then-symbols-lt1 c = not_well_formed _ (λ w. omega arith)

pub returns-then-symbols-gt16 : goal.returns-then-symbols-gt16
returns-then-symbols-gt16 c = not_well_formed _ (λ w. omega arith)

pub returns-then-finals-states-ne0 : goal.returns-then-finals-states-ne0
returns-then-finals-states-ne0 c =
    let x = c.args in
    not_well_formed _ (λ w. c.if-finals-states-ne0.true ((shr_zero_says x.states x.finals).1 ((below_says x.states x.finals).1 w.finals_below)))

pub returns : goal.returns
returns c =
    let x = c.args in
    c.are_cells_below.ensures
    ∙ sym
    (well_formed_rest x.table x.states x.symbols x.finals
    (fit_all x.states x.symbols x.finals (omega arith) (omega arith) (omega arith) (omega arith)
    ((shr_zero_says x.states x.finals).0 c.if-finals-states-ne0.false)))
