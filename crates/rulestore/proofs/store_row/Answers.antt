-- `rulestore::store_row` meets its contract.
-- Invariant: the first c cells of the row are stored, and nothing else differs.
-- Assumes nothing.
use mathlib.Core.Path.{refl}
use native.Mathlib.Omega.{arith}
use borrow.Author.Rules.{rules}
use Rattle.rulestore.proofs.RuleLaws.{cells_none, cells_more, cells_end}
use Rattle.rulestore.proofs.store_row.Goals as goal

pub loop-c-init : goal.loop-c-init
loop-c-init c = (search rules, cells_none c.args.work.now c.args.q c.args.numbers.now)

pub overflow_cast-work : goal.overflow_cast-work
overflow_cast-work c = record { fits = c.requires.1.1 c.loop-c.c (omega arith) }

pub bounds-work-q : goal.bounds-work-q
bounds-work-q c = omega (arith, c.loop-c.invariant.1.kept.long)

pub loop-c-preserved : goal.loop-c-preserved
loop-c-preserved c = let l = c.loop-c in
    let x = c.args in (
      search rules,
      cells_more x.work.now l.work x.q x.numbers.now l.c _ (omega arith) (omega arith) (omega arith) l.invariant.1 refl,
    )

pub shape_of-work : goal.shape_of-work
shape_of-work c = c.loop-c.invariant.1.kept.long

pub returns : goal.returns
returns c = let l = c.loop-c in
    let x = c.args in
    cells_end x.work.now l.work x.q x.numbers.now l.c (omega arith) l.invariant.1
