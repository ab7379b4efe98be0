-- `linewriter::write_line` meets its contract: the letter, the fields and the end byte are stored in turn.
-- Assumes nothing.
use native.Mathlib.Omega.{arith}
use lib.ListN.{length-set}
use Rattle.linewriter.proofs.WriteLaws.{Fields-keep, line_stored}
use Rattle.linewriter.proofs.write_line.Goals as goal

pub write_fields-requires : goal.write_fields-requires
write_fields-requires c = (simp length-set (omega arith), c.requires.1)

pub bounds-out-at-2 : goal.bounds-out-at-2
bounds-out-at-2 c =
    let f = c.write_fields in
    let x = c.args in
    omega (arith, Fields-keep x.out.now f.new.out x.at x.letter x.numbers.now f.ensures)

pub shape_of-out : goal.shape_of-out
shape_of-out c =
    let f = c.write_fields in
    let x = c.args in
    simp length-set (Fields-keep x.out.now f.new.out x.at x.letter x.numbers.now f.ensures)

pub returns : goal.returns
returns c =
    let f = c.write_fields in
    let x = c.args in
    line_stored x.out.now f.new.out x.at x.letter x.numbers.now f.ensures
