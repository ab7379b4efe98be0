-- `nodetest::is_node` meets its contract: each test that fails denies one part of `good_node`.
-- Assumes nothing.
use mathlib.Core.Path.{sym, ◌∙◌}
use Rattle.nodetest.proofs.NodeTestLaws.{node_place, node_value, node_entries, node_exits, node_after, node_exit, node_inner}
use Rattle.nodetest.proofs.is_node.Goals as goal

pub returns-then-numbers-place : goal.returns-then-numbers-place
returns-then-numbers-place c = let x = c.args in node_place x.states x.symbols x.place x.numbers.now c.if-numbers-place.true

pub returns-then-entries-states-ne0 : goal.returns-then-entries-states-ne0
returns-then-entries-states-ne0 c = let x = c.args in node_entries x.states x.symbols x.place x.numbers.now c.if-entries-states-ne0.true

pub returns-then-exits-gt1 : goal.returns-then-exits-gt1
returns-then-exits-gt1 c = let x = c.args in node_exits x.states x.symbols x.place x.numbers.now c.if-exits-gt1.true

pub returns-then-after-symbols-ne0 : goal.returns-then-after-symbols-ne0
returns-then-after-symbols-ne0 c = let x = c.args in node_after x.states x.symbols x.place x.numbers.now c.if-after-symbols-ne0.true

pub returns-then-exits-eq1 : goal.returns-then-exits-eq1
returns-then-exits-eq1 c =
    let x = c.args in
    node_exit x.states x.symbols x.place x.numbers.now c.if-numbers-place.false (sym c.is_value-fits.ensures ∙ c.if-fits.true)
    c.if-entries-states-ne0.false c.if-exits-gt1.false c.if-after-symbols-ne0.false c.if-exits-eq1.true

pub returns-then-fits : goal.returns-then-fits
returns-then-fits c =
    let x = c.args in
    node_inner x.states x.symbols x.place x.numbers.now c.if-numbers-place.false (sym c.is_value-fits.ensures ∙ c.if-fits.true)
    c.if-entries-states-ne0.false c.if-exits-gt1.false c.if-after-symbols-ne0.false c.if-exits-eq1.false

pub returns : goal.returns
returns c = let x = c.args in node_value x.states x.symbols x.place x.numbers.now (sym c.is_value-fits.ensures ∙ c.if-fits.false)
