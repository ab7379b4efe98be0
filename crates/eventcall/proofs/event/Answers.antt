-- `eventcall::event` meets its contract: each arm has the number of its report, and writes the record or leaves it as the report says.
-- Assumes nothing.
use Rattle.std.specs.Prelude.{Ok, Result}
use mathlib.Core.Path.{ap}
use Rattle.refusal.specs.declared.Refusal.{Refusal}
use Rattle.refusal.specs.Refusal.{said}
use Rattle.events.specs.declared.Report.{Report}
use Rattle.events.specs.Answer.{step_of}
use Rattle.events.proofs.AnswerLaws.{report_accepted}
use Rattle.eventbytes.proofs.EventLaws.{answered_length}
use Rattle.eventcall.proofs.event.Goals as goal

pub write_record-requires : goal.write_record-requires
write_record-requires c =
    let x = c.args in
    let t = c.take-taken in
    answered_length x.rule.now x.states x.symbols x.finals x.symbol x.rec.now (step_of t.result) (Ok c.in-Ok.report) t.ensures
    (ap (λ (r : Result Report Refusal). said r) c.in-Ok.is) (report_accepted c.in-Ok.report)
