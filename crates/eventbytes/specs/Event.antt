-- The event step across the C call (document 01, "The job file": C-style calls on numbers and byte slices).
-- Assumes nothing.
use Rattle.std.specs.Prelude.{Result, Ok, Err, ◌≡◌, cond, ◌&&◌, List, ◌++◌, ℕ, ◌+◌, eqb, ltb, length}
use Rattle.laws.specs.Bytes.{number_at, bytes_of}
use Rattle.automaton.specs.Automaton.{Automaton, automaton_of, well_formed}
use Rattle.automaton.specs.Table.{table_of}
use Rattle.events.specs.Monitor.{EventStep, record_of, max_total, taken}
use Rattle.events.specs.declared.Record.{Record}
use Rattle.events.specs.declared.Report.{Report}
use Rattle.events.specs.declared.Report.TheVariants.{Quiet, Alarm}

-- "the rule's rows are 256 bytes in row order, beside S, A and the final set"; any other length is a rule without states,
-- which the event step refuses as 13
unfoldable pub rule_in : List ℕ → ℕ → ℕ → ℕ → Automaton
rule_in bytes s a f = automaton_of (table_of bytes) (cond (eqb (length bytes) 256) s 0) a f

-- "the record is 16 bytes: state, then alarm total, each eight bytes with the lowest first": where each number stands, and the length
abbrev pub state_place : ℕ
state_place = 0

abbrev pub total_place : ℕ
total_place = state_place + 8

abbrev pub record_size : ℕ
record_size = total_place + 8

-- the record of these numbers
abbrev pub record_at : List ℕ → Record
record_at bytes = record_of (number_at 8 bytes state_place) (number_at 8 bytes total_place)

-- a record in a state that no rule has, which the event step refuses as 15
abbrev pub no_record : Record
no_record = record_of max_total 0

-- the record that bytes spell; those of any other length spell none
unfoldable pub record_in : List ℕ → Record
record_in bytes = cond (eqb (length bytes) record_size) (record_at bytes) no_record

-- what the call reports and leaves
unfoldable pub event_taken : List ℕ → ℕ → ℕ → ℕ → ℕ → List ℕ → EventStep
event_taken rule s a f symbol rec = taken (rule_in rule s a f) symbol (record_in rec)

-- a record as its bytes
unfoldable pub record_bytes : Record → List ℕ
record_bytes r = bytes_of 8 r.state ++ bytes_of 8 r.alarms

-- the record's bytes after a call, by what it reports: "a refusal leaves the record unchanged"
abbrev pub left_by : Result Report ℕ → List ℕ → List ℕ → List ℕ
left_by (Ok Quiet) old new = new
left_by (Ok Alarm) old new = new
left_by (Err k) old new = old

-- the same of what a call reports and leaves
abbrev pub record_left : List ℕ → EventStep → List ℕ
record_left old t = left_by t.report old (record_bytes t.left)

-- the refusals read off the bytes, 0 for none: 13, 14 and 15 in that order, a wrong length of the rule as 13 and of the record as 15
unfoldable pub refusal_of : List ℕ → ℕ → ℕ → ℕ → ℕ → List ℕ → ℕ
refusal_of rule s a f symbol rec =
    cond (eqb (length rule) 256 && well_formed (automaton_of (table_of rule) s a f))
    (cond (ltb symbol a) (cond (eqb (length rec) record_size && ltb (number_at 8 rec state_place) s) 0 15) 14)
    13

-- the number of a refusal, 0 for an event
abbrev pub refused_by : Result Report ℕ → ℕ
refused_by (Ok Quiet) = 0
refused_by (Ok Alarm) = 0
refused_by (Err k) = k

-- the statement: the call refuses what `refusal_of` says, and nothing else
abbrev pub RefusesEventsInOrder : Type 0
RefusesEventsInOrder =
    (rule : List ℕ) (s a f symbol : ℕ) (rec : List ℕ) → refused_by (event_taken rule s a f symbol rec).report ≡ refusal_of rule s a f symbol rec
