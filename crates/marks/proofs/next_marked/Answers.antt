-- `marks::next_marked` meets its contract.
-- Invariant: no node from the first up to `next` has marks.
-- Assumes nothing.
use Rattle.tables.proofs.TableLaws.{unmarked_start, unmarked_more, next_here, next_none}
use Rattle.marks.proofs.next_marked.Goals as goal

pub loop-next-init : goal.loop-next-init
loop-next-init c = unmarked_start _ _ _ c.requires.1.0

pub returns-then-read16-ne0 : goal.returns-then-read16-ne0
returns-then-read16-ne0 c = next_here c.loop-next.invariant c.read16.ensures c.if-read16-ne0.true

pub loop-next-preserved : goal.loop-next-preserved
loop-next-preserved c =
    unmarked_more c.loop-next.invariant c.loop-next-test.true c.read16.ensures c.if-read16-ne0.false

pub returns : goal.returns
returns c = next_none c.loop-next.invariant c.loop-next-test.false
