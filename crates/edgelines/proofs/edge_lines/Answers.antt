-- `edgelines::edge_lines` meets its contract.
-- Invariant: the first e lines pass and their targets are stored; `next` is one more than the key of the last; the starts of the nodes up to its
-- source are stored.
-- Assumes nothing.
use mathlib.Core.Path.{refl, ◌∙◌}
use native.Mathlib.Omega.{arith}
use borrow.Author.Rules.{rules}
use lib.ListN.{drop, length-drop}
use Rattle.std.proofs.lemmas.Result.{err_from_is_err_and}
use Rattle.refusal.proofs.RefusalLaws.{number_some}
use Rattle.edgelines.proofs.EdgesLaws.{edges_none, edges_stop, Edges-more, edges_end, done_reaches}
use Rattle.edgelines.proofs.edge_lines.Goals as goal

pub loop-e-init : goal.loop-e-init
loop-e-init c = (search rules, edges_none _ _ _)

pub overflow_add-at : goal.overflow_add-at
overflow_add-at c = let x = c.args in omega (arith, c.loop-e.invariant.1.within, length-drop x.at x.file.now)

pub edge_line-requires : goal.edge_line-requires
edge_line-requires c = let x = c.args in omega (arith, c.loop-e.invariant.1.within, length-drop x.at x.file.now)

pub shape_of-work-in_err-key : goal.shape_of-work-in_err-key
shape_of-work-in_err-key c = c.loop-e.invariant.1.kept.long

pub returns-in_err-key : goal.returns-in_err-key
returns-in_err-key c = let x = c.args in
    let l = c.loop-e in
    let e = err_from_is_err_and c.from_residual.result c.from_residual.ensures.1 in
    rw (e.1, e.2)
    (edges_stop x.nodes x.file.now x.at x.work.now l.work l.next l.done l.e _ l.invariant.1 c.in_err-key.ensures
    x.edges (omega arith) (number_some _))

pub fill_starts-requires : goal.fill_starts-requires
fill_starts-requires c = let x = c.args in
    let l = c.loop-e in
    let r = c.in_ok-key in
    let d = done_reaches x.nodes x.file.now x.at x.work.now l.work l.next l.done l.e _ l.invariant.1 r.ensures refl in
    omega (arith, d, r.ensures.from_below refl, l.invariant.1.kept.long, c.requires)

pub write16-requires : goal.write16-requires
write16-requires c = omega (arith, c.fill_starts.ensures.kept.long, c.loop-e.invariant.1.kept.long, c.loop-e-test.true, c.requires)

pub overflow_add-next : goal.overflow_add-next
overflow_add-next c = omega (arith, c.in_ok-key.ensures.small)

pub loop-e-preserved : goal.loop-e-preserved
loop-e-preserved c = let x = c.args in
    let p = c.requires in
    let l = c.loop-e in (
      search rules,
      Edges-more x.nodes x.file.now x.at x.work.now l.work l.next l.done l.e _ l.invariant.1 c.in_ok-key.ensures
          _ _ p.1.1.0 (omega (arith, p)) p.1.0 refl c.fill_starts.ensures c.write16.ensures,
    )

pub fill_starts-requires-2 : goal.fill_starts-requires-2
fill_starts-requires-2 c = omega (arith, c.loop-e.invariant.1.few, c.loop-e.invariant.1.kept.long, c.requires)

pub shape_of-work : goal.shape_of-work
shape_of-work c = c.fill_starts-2.ensures.kept.long ∙ c.loop-e.invariant.1.kept.long

pub returns : goal.returns
returns c = let x = c.args in
    let p = c.requires in
    let l = c.loop-e in
    edges_end x.nodes (drop x.at x.file.now) x.work.now l.work _ l.next l.done l.e x.edges (omega arith) p.1.1.0 l.invariant.1
    c.fill_starts-2.ensures
