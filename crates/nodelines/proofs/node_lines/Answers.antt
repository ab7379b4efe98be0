-- `nodelines::node_lines` meets its contract.
-- Invariant: the first n lines pass, their nodes are stored, and sum is that of their entry sets.
-- Assumes nothing.
use mathlib.Core.Path.{refl, ◌∙◌}
use native.Mathlib.Omega.{arith}
use borrow.Author.Rules.{rules}
use lib.ListN.{drop, length-drop}
use Rattle.std.proofs.lemmas.Result.{err_from_is_err_and}
use Rattle.refusal.proofs.RefusalLaws.{number_some}
use Rattle.nodelines.proofs.NodesLaws.{nodes_none, nodes_more, nodes_stop, nodes_end}
use Rattle.nodelines.proofs.node_lines.Goals as goal

pub loop-n-init : goal.loop-n-init
loop-n-init c = let x = c.args in
    (search rules, nodes_none x.states x.symbols (drop x.at x.file.now) x.work.now)

pub overflow_add-at : goal.overflow_add-at
overflow_add-at c = omega (arith, c.loop-n.invariant.1.within, length-drop c.args.at c.args.file.now)

pub node_line-requires : goal.node_line-requires
node_line-requires c = let x = c.args in
    let i = c.loop-n.invariant.1 in
    omega (arith, i.within, i.kept.long, length-drop x.at x.file.now)

pub shape_of-work-in_err-entries : goal.shape_of-work-in_err-entries
shape_of-work-in_err-entries c = let i = c.loop-n.invariant.1 in
    c.in_err-entries.ensures.kept.long ∙ i.kept.long

pub returns-in_err-entries : goal.returns-in_err-entries
returns-in_err-entries c = let x = c.args in
    let l = c.loop-n in
    let e = err_from_is_err_and c.from_residual.result c.from_residual.ensures.1 in
    rw (e.1, e.2)
    (nodes_stop x.states x.symbols x.file.now x.at x.work.now l.work _ l.n l.sum _ l.invariant.1 (omega arith) c.in_err-entries.ensures
    x.nodes (omega arith) (number_some _))

pub overflow_add-sum : goal.overflow_add-sum
overflow_add-sum c = let l = c.loop-n in
    omega (arith, l.invariant.1.small, c.in_ok-entries.ensures.small)

pub loop-n-preserved : goal.loop-n-preserved
loop-n-preserved c = let x = c.args in
    let l = c.loop-n in (
      search rules,
      nodes_more x.states x.symbols x.file.now x.at x.work.now l.work _ l.n l.sum _ l.invariant.1 (omega arith)
          c.in_ok-entries.ensures refl,
    )

pub shape_of-work : goal.shape_of-work
shape_of-work c = c.loop-n.invariant.1.kept.long

pub returns : goal.returns
returns c = let x = c.args in
    let l = c.loop-n in
    nodes_end x.states x.symbols (drop x.at x.file.now) x.work.now l.work l.n l.sum x.nodes (omega arith) l.invariant.1
