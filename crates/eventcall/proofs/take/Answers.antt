-- `eventcall::take` meets its contract: a rule of 256 bytes goes through the lent record, any other is refused as 13.
-- Assumes nothing.
use mathlib.Core.Path.{ap, ◌∙◌}
use Rattle.automaton.specs.Automaton.{automaton_of}
use Rattle.events.specs.Monitor.{refused_with, taken}
use Rattle.eventbytes.proofs.EventLaws.{event_taken_lem, event_no_rule}
use Rattle.eventcall.proofs.take.Goals as goal

pub returns-then-rule-eq256 : goal.returns-then-rule-eq256
returns-then-rule-eq256 c =
    let x = c.args in
    let rule = automaton_of c.table_of-table.result x.states x.symbols x.finals in
    c.take_event_on.ensures
    ∙ ap (taken rule x.symbol) c.read_record-r.ensures
    ∙ event_taken_lem x.rule.now x.states x.symbols x.finals x.symbol x.rec.now c.table_of-table.result c.if-rule-eq256.true
    c.table_of-table.ensures

pub returns : goal.returns
returns c =
    let x = c.args in
    ap (refused_with 13) c.read_record-r.ensures
    ∙ event_no_rule x.rule.now x.states x.symbols x.finals x.symbol x.rec.now c.if-rule-eq256.false
