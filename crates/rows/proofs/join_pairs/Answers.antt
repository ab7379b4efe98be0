-- `rows::join_pairs` meets its contract. Where the union is the row nothing is stored; elsewhere the row grows, so the room falls
-- by more than the mark adds.
-- Assumes nothing.
use native.Mathlib.Omega.{arith}
use Rattle.tables.proofs.TableLaws.{pairs_same, pairs_grow}
use Rattle.rows.proofs.join_pairs.Goals as goal

pub returns-then-joined-old : goal.returns-then-joined-old
returns-then-joined-old c =
    let a = c.args in
    pairs_same a.work.now a.n a.p a.s (omega arith) (omega arith) (omega arith)
    (λ i h. omega (arith, c.slice_known-1.given i)) (omega arith) c.read16-old.result c.read16-old.ensures c.if-joined-old.true

pub returns : goal.returns
returns c =
    let a = c.args in
    let r = c.read16-old in
    let w = c.write16 in
    let last = c.write16-2 in
    let i = c.insert in
    pairs_grow a.work.now a.n a.p a.s (omega arith) (omega arith) (omega arith)
    (λ i h. omega (arith, c.slice_known-1.given i)) (omega arith) w.new.s r.result c.read16-due.result r.ensures
    c.if-joined-old.false c.read16-due.ensures w.ensures last.new.s i.result i.ensures last.ensures
