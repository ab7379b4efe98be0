-- `afterwords::word_round` meets its contract.
-- Invariant: the rows below p were joined, and `grown` of them grew.
-- Each turn is one step of `JoiningWords`.
-- Assumes nothing.
use mathlib.Core.Path.{sym, ◌∙◌}
use native.Mathlib.Omega.{arith}
use Rattle.classes.proofs.WordLaws.{round_none, round_more, round_end, rows_left_small}
use Rattle.afterwords.proofs.word_round.Goals as goal

pub loop-p-init : goal.loop-p-init
loop-p-init c =
    let a = c.args in
    round_none a.table.now a.finals a.states a.rows.now a.set c.requires.0

pub word_row-row-requires : goal.word_row-row-requires
word_row-row-requires c =
    let pre = c.requires in
    (c.loop-p.invariant.sixteen.long, (omega (arith, pre.1.0), (pre.1.0, pre.1.1)))

pub join_row-grown-requires : goal.join_row-grown-requires
join_row-grown-requires c =
    let pre = c.requires in
    (c.loop-p.invariant.sixteen, omega (arith, pre.1.0))

pub overflow_add-grown : goal.overflow_add-grown
overflow_add-grown c =
    let loop = c.loop-p in
    let a = c.args in
    omega (arith, loop.invariant.left, c.join_row-grown.ensures.left, rows_left_small a.rows.now)

pub loop-p-preserved : goal.loop-p-preserved
loop-p-preserved c =
    let a = c.args in
    let pre = c.requires in
    let loop = c.loop-p in
    let row = c.word_row-row in
    let joined = c.join_row-grown in
    round_more a.table.now a.finals a.states a.rows.now loop.rows joined.new.rows a.set loop.grown loop.p
    row.result joined.result (omega (arith, pre.1.0)) pre.1.0 pre.1.1 loop.invariant row.ensures joined.ensures

pub shape_of-rows : goal.shape_of-rows
shape_of-rows c = c.loop-p.invariant.sixteen.long ∙ sym c.requires.0.long

pub returns : goal.returns
returns c =
    let a = c.args in
    round_end a.table.now a.finals a.states a.rows.now c.loop-p.rows a.set c.loop-p.grown c.loop-p.p
    c.loop-p.invariant (omega arith)
