-- `duelines::fields_in` meets its contract.
-- Invariant: the first k fields are numbers, which stand in order, and those past them are as they were.
-- Assumes nothing.
use mathlib.Core.Path.{sym, ◌∙◌}
use native.Mathlib.Omega.{arith}
use borrow.Author.Rules.{rules}
use Rattle.lines.proofs.LineLaws.{fields_start, fields_more, fields_stop, fields_end}
use Rattle.duelines.proofs.fields_in.Goals as goal

pub loop-k-init : goal.loop-k-init
loop-k-init c = (search rules, fields_start c.args.line.now c.args.numbers.now)

pub returns-in_default : goal.returns-in_default
returns-in_default c =
    let x = c.args in
    let l = c.loop-k in
    let f = c.field_in in
    fields_stop x.line.now x.numbers.now l.numbers l.k x.count (omega arith) (sym f.ensures ∙ c.in_default.is)

pub loop-k-preserved : goal.loop-k-preserved
loop-k-preserved c =
    let x = c.args in
    let l = c.loop-k in
    let f = c.field_in in (
      search rules,
      fields_more x.line.now x.numbers.now l.numbers l.k c.in-Some.n f.result (omega arith) l.invariant.1
          f.ensures c.in-Some.is,
    )

pub returns : goal.returns
returns c =
    let x = c.args in
    let l = c.loop-k in
    fields_end x.line.now x.numbers.now l.numbers l.k x.count (omega arith) (omega arith) l.invariant.1
