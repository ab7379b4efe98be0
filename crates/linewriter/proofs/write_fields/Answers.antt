-- `linewriter::write_fields` meets its contract.
-- Invariant: the first k fields are stored, and storing the others leaves what storing all leaves.
-- Assumes nothing.
use native.Mathlib.Omega.{arith}
use borrow.Author.Rules.{rules}
use Rattle.linewriter.proofs.WriteLaws.{each_fits, stored_start, stored_more, stored_end}
use Rattle.linewriter.proofs.write_fields.Goals as goal

pub loop-k-init : goal.loop-k-init
loop-k-init c =
    let x = c.args in
    stored_start x.out.now x.at x.numbers.now

pub write_field-requires : goal.write_field-requires
write_field-requires c =
    let l = c.loop-k in
    (search (rules, l.invariant.few, l.invariant.long), each_fits c.args.numbers.now l.k (omega arith) c.requires.1)

pub loop-k-preserved : goal.loop-k-preserved
loop-k-preserved c =
    let l = c.loop-k in
    let x = c.args in
    stored_more x.out.now l.out c.write_field.new.out x.at x.numbers.now l.k (omega arith) l.invariant
    c.write_field.ensures

pub shape_of-out : goal.shape_of-out
shape_of-out c = c.loop-k.invariant.long

pub returns : goal.returns
returns c =
    let l = c.loop-k in
    let x = c.args in
    stored_end x.out.now l.out x.at x.numbers.now l.k (omega arith) l.invariant
