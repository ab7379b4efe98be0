-- `nodereads::after_set` meets its contract: the mark of an exit is 1, and the set is the number in its two bytes.
-- Assumes nothing.
use Prim.Native.Nat.{◌+◌, ◌*◌}
use lib.ListN.{get_or}
use borrow.Author.Tests.{eq-eqb, ne_eqb}
use Rattle.buffer.specs.Views.{node_in}
use Rattle.nodereads.proofs.after_set.Goals as goal

pub returns-then-work-n-ne1 : goal.returns-then-work-n-ne1
unfolding node_in
returns-then-work-n-ne1 c =
    let a = c.args in rw (ne_eqb (get_or a.work.now (a.n * 8 + 7) 0) 1 c.if-work-n-ne1.true)

pub returns : goal.returns
unfolding node_in
returns c =
    let a = c.args in
    rw (eq-eqb (get_or a.work.now (a.n * 8 + 7) 0) 1 c.if-work-n-ne1.false) c.read16.ensures
