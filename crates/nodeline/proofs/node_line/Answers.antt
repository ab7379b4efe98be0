-- `nodeline::node_line` meets its contract: nothing or no line, numbers that do not pass, or a node that is stored.
-- Assumes nothing.
use mathlib.Core.Path.{refl, sym, ◌∙◌}
use lib.ListN.{drop}
use Rattle.std.proofs.lemmas.Result.{err_from_is_err_and}
use Rattle.nodetest.proofs.NodeTestLaws.{node_fits}
use Rattle.nodeline.proofs.NodeLineLaws.{node_stop, node_fails, node_passes}
use Rattle.nodeline.proofs.node_line.Goals as goal

pub returns-in_err-due_line : goal.returns-in_err-due_line
returns-in_err-due_line c =
    let x = c.args in
    let e = err_from_is_err_and c.from_residual.result c.from_residual.ensures.1 in
    rw (e.1, e.2) (node_stop x.states x.symbols x.n (drop x.at x.file.now) x.work.now c.in_err-due_line.ensures _ refl)

pub returns-then-not-is_node : goal.returns-then-not-is_node
returns-then-not-is_node c =
    let x = c.args in
    let d = c.in_ok-due_line in
    node_fails x.states x.symbols x.n (drop x.at x.file.now) x.work.now d.ensures refl
    (sym c.is_node.ensures ∙ c.if-not-is_node.true)

pub store_node-requires : goal.store_node-requires
store_node-requires c =
    let x = c.args in
    let p = c.requires in
    let fits = node_fits x.states x.symbols x.n _ p.1.1.0 p.1.1.1.0 (sym c.is_node.ensures ∙ c.if-not-is_node.false) in
    (p.1.1.1.1, (p.1.0, fits))

pub returns : goal.returns
returns c =
    let x = c.args in
    let p = c.requires in
    let d = c.in_ok-due_line in
    let t = c.is_node in
    node_passes x.states x.symbols x.n (drop x.at x.file.now) x.work.now d.ensures refl _ p.1.1.0 p.1.1.1.0
    (sym t.ensures ∙ c.if-not-is_node.false) c.store_node.ensures
