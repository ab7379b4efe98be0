-- The forms of the event step (document 01, "The rule and the monitor" and "Two monitors on one walk"): what any form is, what must hold of
-- it, and the two on records. The paper's number of a report decides which answers are alarms and which refusals.
-- Assumes nothing.
use Rattle.std.specs.Prelude.{Result, ◌≡◌, Bool, true, false, [], ℕ, ◌^◌, ◌<◌, ◌≤◌, length, get_or}
use Rattle.automaton.specs.Automaton.{Automaton, cell, next, final, WellFormed, SameRule}
use Rattle.events.specs.Monitor.{EventStep, RecordIs, max_total, counted, taken, report_number, alarm_number, refusal_number}
use Rattle.events.specs.declared.Record.{Record}
use Rattle.events.specs.declared.Report.{Report}

-- a form: what a call is given beside its record, what is held of the record, what the caller is answered, and what is left; which answers
-- are alarms and which refusals; which calls the types of the form can pass; when a call on what is held gives this rule and this symbol;
-- what is held of a record in this state and with this alarm total, all else free; and the alarm total of what is held
pub record EventForm : Type 1 where
  pub Call : Type 0
  pub Held : Type 0
  pub Answer : Type 0
  pub answer : Call → Held → Answer
  pub left : Call → Held → Held
  pub alarm : Answer → Bool
  pub refusal : Answer → Bool
  pub Passable : Call → Type 0
  pub Gives : Automaton → ℕ → Call → Held → Type 0
  pub Begins : ℕ → ℕ → Held → Type 0
  pub total : Held → ℕ

-- ---- what holds of a form

-- the statement: "a refusal leaves the record unchanged", and all else that is held
abbrev pub RefusalKeeps : EventForm → Type 0
RefusalKeeps f = (c : f.Call) (h : f.Held) → f.refusal (f.answer c h) ≡ true → f.left c h ≡ h

-- a call that gives rule m and symbol a, on a record in state q and with total n: it is no refusal, "alarms exactly when the state moved to
-- is final", and leaves the next state and the total raised at an alarm
pub record EventTaken (f : EventForm) (m : Automaton) (a q n : ℕ) (c : f.Call) (h : f.Held) : Type 0 where
  pub accepted : f.refusal (f.answer c h) ≡ false
  pub alarm : f.alarm (f.answer c h) ≡ final m (next m q a)
  pub left : f.Begins (next m q a) (counted (final m (next m q a)) n) (f.left c h)

-- the statement: in this form every event is taken so, totals are read as they are, and refusals leave the record
pub record FormMoves (f : EventForm) : Type 0 where
  pub events
      : (m : Automaton) (a q n : ℕ) (c : f.Call) (h : f.Held) → WellFormed m → a < m.symbols → q < m.states → n ≤ max_total
      → f.Begins q n h → f.Gives m a c h → EventTaken f m a q n c h
  pub totals : (q n : ℕ) (h : f.Held) → n ≤ max_total → f.Begins q n h → f.total h ≡ n
  pub refusals : RefusalKeeps f

-- ---- on values, and on a lent record

-- what such a call is given: a rule and a symbol
pub record Given : Type 0 where
  pub rule : Automaton
  pub symbol : ℕ

-- a rule of sixteen rows of sixteen bytes, and numbers of 64 bits
pub record GivenFits (c : Given) : Type 0 where
  pub rows : length c.rule.table ≡ 16
  pub columns : (q : ℕ) → q < 16 → length (get_or c.rule.table q []) ≡ 16
  pub cells : (q a : ℕ) → q < 16 → a < 16 → cell c.rule.table q a < 256
  pub states : c.rule.states < 2 ^ 64
  pub symbols : c.rule.symbols < 2 ^ 64
  pub finals : c.rule.finals < 2 ^ 64
  pub symbol : c.symbol < 2 ^ 64

-- the call gives rule m, but for cells past S or A, and symbol a
pub record GivenIs (m : Automaton) (a : ℕ) (c : Given) : Type 0 where
  pub rule : SameRule m c.rule
  pub symbol : c.symbol ≡ a

-- on values (`step`): the answer has the record that the caller keeps for the next call
abbrev pub value_form : EventForm
value_form =
    record {
      Call = Given;
      Held = Record;
      Answer = EventStep;
      answer = λ c r. taken c.rule c.symbol r;
      left = λ c r. (taken c.rule c.symbol r).left;
      alarm = λ t. alarm_number (report_number t.report);
      refusal = λ t. refusal_number (report_number t.report);
      Passable = GivenFits;
      Gives = λ m a c r. GivenIs m a c;
      Begins = RecordIs;
      total = λ r. r.alarms;
    }

-- on a record lent by `&mut` (`take_event`): the answer is the report
abbrev pub lent_form : EventForm
lent_form =
    record {
      Call = Given;
      Held = Record;
      Answer = Result Report ℕ;
      answer = λ c held. (taken c.rule c.symbol held).report;
      left = λ c held. (taken c.rule c.symbol held).left;
      alarm = λ x. alarm_number (report_number x);
      refusal = λ x. refusal_number (report_number x);
      Passable = GivenFits;
      Gives = λ m a c r. GivenIs m a c;
      Begins = RecordIs;
      total = λ r. r.alarms;
    }
