-- `marks::take_marks` meets its contract: the marks of the node are read, then stored as none.
-- Assumes nothing.
use native.Mathlib.Omega.{arith}
use Rattle.tables.proofs.TableLaws.{marks_taken}
use Rattle.marks.proofs.take_marks.Goals as goal

pub returns : goal.returns
returns c =
    let a = c.args in
    let r = c.read16-due in
    let w = c.write16 in
    marks_taken a.work.now w.new.s a.n r.result (omega arith) (omega arith) r.ensures w.ensures
