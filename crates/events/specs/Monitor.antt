-- The event step (document 01, "The rule and the monitor"; refusals 13, 14 and 15 in that order).
-- Assumes nothing.
use Rattle.std.specs.Prelude.{Result, Ok, Err, ◌≡◌, Bool, true, false, cond, ℕ, ◌+◌, ◌-◌, ◌^◌, eqb, ltb}
use Rattle.callnumber.specs.CallNumber.{accepted_from}
use Rattle.automaton.specs.Automaton.{Automaton, next, final, well_formed, SameRule}
use Rattle.events.specs.declared.Record.{Record}
use Rattle.events.specs.declared.Report.{Report}
use Rattle.events.specs.declared.Report.TheVariants.{Quiet, Alarm}

-- "one record": the state and the alarm total
abbrev pub record_of : ℕ → ℕ → Record
record_of q n = record { state = q; alarms = n }

-- a record in state q and with total n, all else free
pub record RecordIs (q n : ℕ) (r : Record) : Type 0 where
  pub state : r.state ≡ q
  pub total : r.alarms ≡ n

-- what an event call leaves and reports: the record, and a report or the number of a refusal
pub record EventStep : Type 0 where
  pub left : Record
  pub report : Result Report ℕ

-- the record that is left, with what is reported
abbrev pub reported : Record → Result Report ℕ → EventStep
reported r x = record { left = r; report = x }

-- the highest alarm total
abbrev pub max_total : ℕ
max_total = 2 ^ 64 - 1

-- "rises by one at each alarm and stays at 2^64-1 once there" (saturating)
unfoldable pub raised : ℕ → ℕ
raised n = cond (ltb n max_total) (n + 1) n

-- a total after an event: it rises at an alarm
abbrev pub counted : Bool → ℕ → ℕ
counted alarm n = cond alarm (raised n) n

-- the record after an event that moves it to state q: the total rises at an alarm
abbrev pub record_after : ℕ → Bool → Record → Record
record_after q alarm r = record_of q (counted alarm r.alarms)

-- "a refusal leaves the record unchanged"
abbrev pub refused_with : ℕ → Record → EventStep
refused_with k r = reported r (Err k)

-- "moves to the next state; it alarms exactly when the state moved to is final, also when it was final before":
-- the move of a record to state q
unfoldable pub moved_to : Automaton → ℕ → Record → EventStep
moved_to m q r = cond (final m q) (reported (record_after q true r) (Ok Alarm)) (reported (record_after q false r) (Ok Quiet))

-- the event step: 13 for a rule that is none, 14 for a symbol of A or more, 15 for a state of S or more, else the move
unfoldable pub taken : Automaton → ℕ → Record → EventStep
taken m a r =
    cond (well_formed m)
    (cond (ltb a m.symbols)
    (cond (ltb r.state m.states) (moved_to m (next m r.state a) r) (refused_with 15 r))
    (refused_with 14 r))
    (refused_with 13 r)

-- the statement: the event step looks at no cell past S or A
abbrev pub LooksAtNoOtherCell : Type 0
LooksAtNoOtherCell = (m n : Automaton) (a : ℕ) (r : Record) → SameRule m n → taken m a r ≡ taken n a r

-- this paper's number for each report: "a refusal is its number; quiet is 2^48, alarm is 2^48 plus 1"
abbrev pub report_number : Result Report ℕ → ℕ
report_number (Ok Quiet) = accepted_from
report_number (Ok Alarm) = accepted_from + 1
report_number (Err k) = k

-- the number of an alarm
abbrev pub alarm_number : ℕ → Bool
alarm_number n = eqb n (accepted_from + 1)

-- the number of a refusal
abbrev pub refusal_number : ℕ → Bool
refusal_number n = ltb n accepted_from

-- the report that a number tells: 2^48 is quiet, 2^48 plus 1 an alarm, any other a refusal
abbrev pub report_read : ℕ → Result Report ℕ
report_read n = cond (eqb n accepted_from) (Ok Quiet) (cond (eqb n (accepted_from + 1)) (Ok Alarm) (Err n))

-- the statement: a caller reads the report back from the number
abbrev pub ReportByNumber : Type 0
ReportByNumber = (m : Automaton) (a : ℕ) (r : Record) → report_read (report_number (taken m a r).report) ≡ (taken m a r).report
