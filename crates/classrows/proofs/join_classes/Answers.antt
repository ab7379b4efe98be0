-- `classrows::join_classes` meets its contract. Where the union is the row, storing it would change nothing; elsewhere the row grows.
-- Assumes nothing.
use native.Mathlib.Omega.{arith}
use Rattle.buffer.proofs.ClassRowLaws.{apart_same, apart_grows}
use Rattle.classrows.proofs.join_classes.Goals as goal

pub returns-then-new-old : goal.returns-then-new-old
returns-then-new-old c =
    let a = c.args in
    apart_same a.work.now a.n a.p a.s (omega arith) (omega arith) (omega arith)
    (λ i h. omega (arith, c.slice_known-1.given i)) (omega arith) c.read16-old.result c.read16-old.ensures c.if-new-old.true

pub returns : goal.returns
returns c =
    let a = c.args in
    let r = c.read16-old in
    apart_grows a.work.now a.n a.p a.s (omega arith) (omega arith) (omega arith)
    (λ i h. omega (arith, c.slice_known-1.given i)) (omega arith) c.write16.new.s r.result r.ensures
    c.if-new-old.false c.write16.ensures
