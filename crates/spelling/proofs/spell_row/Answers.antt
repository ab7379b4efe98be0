-- `spelling::spell_row` meets its contract.
-- Invariant: the row, as it was at the start, was moved by the symbols before some number; `rest` is the symbols from it on.
-- Measure: the set that is left, as a number. Each turn is one step of `SpellingRow`.
-- Assumes nothing.
use mathlib.Core.Path.{refl, sym, ◌∙◌}
use native.Mathlib.Omega.{arith}
use Rattle.laws.proofs.Walk.{rest_lt, clear_lt}
use Rattle.spelling.proofs.SpellingLaws.{spelling_start, spelling_none, spelling_more, spelling_end}
use Rattle.spelling.proofs.spell_row.Goals as goal

pub bounds-rows-p : goal.bounds-rows-p
bounds-rows-p c = omega (arith, c.requires.0.long)

pub returns-then-s-eq0 : goal.returns-then-s-eq0
returns-then-s-eq0 c = spelling_none c.args.set c.args.p c.requires.0 c.if-s-eq0.true

pub loop-rest-init : goal.loop-rest-init
loop-rest-init c =
    let a = c.args in
    spelling_start a.table.now a.rows.now a.set a.p c.requires.0 c.ranges.set.fits

pub next_state-state-requires : goal.next_state-state-requires
next_state-state-requires c =
    let pre = c.requires in
    (pre.1.0, (omega (arith, rest_lt c.loop-rest.invariant.left (omega arith), c.lowest-a.ensures), pre.1.1))

pub image_under-moved-requires : goal.image_under-moved-requires
image_under-moved-requires c =
    (omega (arith, rest_lt c.loop-rest.invariant.left (omega arith), c.lowest-a.ensures), c.requires.1.1)

pub grow_row-grown-requires : goal.grow_row-grown-requires
grow_row-grown-requires c = (c.loop-rest.invariant.growing.sixteen, c.next_state-state.ensures.1)

pub loop-rest-smaller : goal.loop-rest-smaller
loop-rest-smaller c = rw c.without_lowest-rest.ensures (clear_lt c.loop-rest.rest (omega arith))

pub loop-rest-preserved : goal.loop-rest-preserved
loop-rest-preserved c =
    let pre = c.requires in
    spelling_more pre.0 pre.1.1 pre.1.0 c.loop-rest.invariant (omega arith) c.lowest-a.ensures refl
    c.next_state-state.ensures.0 c.image_under-moved.ensures _ _ _ c.grow_row-grown.ensures c.without_lowest-rest.ensures

pub shape_of-rows : goal.shape_of-rows
shape_of-rows c = c.loop-rest.invariant.growing.sixteen.long ∙ sym c.requires.0.long

pub returns : goal.returns
returns c = spelling_end c.loop-rest.invariant (omega arith)
