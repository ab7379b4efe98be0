-- `recordbytes::read_record` meets its contract: both numbers are read, or the length is another.
-- Assumes nothing.
use mathlib.Core.Path.{sym, ap₂, ◌∙◌}
use Rattle.events.specs.Monitor.{record_of}
use Rattle.eventbytes.proofs.EventLaws.{record_read, record_none}
use Rattle.recordbytes.proofs.read_record.Goals as goal

pub returns-then-rec-eq-RECORD_SIZE : goal.returns-then-rec-eq-RECORD_SIZE
returns-then-rec-eq-RECORD_SIZE c =
    ap₂ record_of c.read64.ensures c.read64-then-rec-eq-RECORD_SIZE.ensures
    ∙ sym (record_read c.args.rec.now c.if-rec-eq-RECORD_SIZE.true)

pub returns : goal.returns
returns c = sym (record_none c.args.rec.now c.if-rec-eq-RECORD_SIZE.false)
