-- `edgeline::edge_line` meets its contract: nothing or no line, numbers that do not pass, or the key of an edge.
-- Assumes nothing.
use mathlib.Core.Path.{refl, sym, ◌∙◌}
use native.Mathlib.Omega.{arith}
use lib.ListN.{drop}
use Rattle.std.proofs.lemmas.Result.{err_from_is_err_and}
use Rattle.edgeline.proofs.EdgeLineLaws.{edge_limits, edge_stop, edge_fails, edge_passes}
use Rattle.edgeline.proofs.edge_line.Goals as goal

pub returns-in_err-due_line : goal.returns-in_err-due_line
returns-in_err-due_line c =
    let x = c.args in
    let e = err_from_is_err_and c.from_residual.result c.from_residual.ensures.1 in
    rw (e.1, e.2) (edge_stop x.nodes x.next (drop x.at x.file.now) c.in_err-due_line.ensures _ refl)

pub overflow_mul-result : goal.overflow_mul-result
overflow_mul-result c =
    let x = c.args in
    let d = c.in_ok-due_line in
    let l = edge_limits x.nodes x.next (drop x.at x.file.now) d.ensures refl (omega arith)
    (sym c.is_edge.ensures ∙ c.if-not-is_edge.false) in
    omega (arith, l.0)

pub overflow_add-result : goal.overflow_add-result
overflow_add-result c =
    let x = c.args in
    let d = c.in_ok-due_line in
    let l = edge_limits x.nodes x.next (drop x.at x.file.now) d.ensures refl (omega arith)
    (sym c.is_edge.ensures ∙ c.if-not-is_edge.false) in
    omega (arith, l.0, l.1)

pub returns : goal.returns
returns c =
    let x = c.args in
    let d = c.in_ok-due_line in
    edge_passes x.nodes x.next (drop x.at x.file.now) d.ensures refl (omega arith)
    (sym c.is_edge.ensures ∙ c.if-not-is_edge.false)

pub returns-then-not-is_edge : goal.returns-then-not-is_edge
returns-then-not-is_edge c =
    let x = c.args in
    let d = c.in_ok-due_line in
    edge_fails x.nodes x.next (drop x.at x.file.now) d.ensures refl
    (sym c.is_edge.ensures ∙ c.if-not-is_edge.true)
