-- The form of the event step across the C call (document 01, "The job file": C-style calls on numbers and byte slices).
-- Assumes nothing.
use Rattle.std.specs.Prelude.{◌≡◌, List, ◌++◌, ℕ, ◌^◌, ◌<◌, take, drop}
use Rattle.laws.specs.Bytes.{AreBytes, number_at}
use Rattle.automaton.specs.Automaton.{Automaton, SameRule}
use Rattle.events.specs.Monitor.{EventStep, RecordIs, report_number, alarm_number, refusal_number}
use Rattle.events.specs.Form.{EventForm}
use Rattle.events.specs.declared.Record.{Record}
use Rattle.eventbytes.specs.Event.{rule_in, total_place, record_size, event_taken, record_bytes, record_left}

-- the bytes of a record in state q and with total n
pub record BytesHold (q n : ℕ) (bytes : List ℕ) : Type 0 where
  pub kept : Record
  pub is : RecordIs q n kept
  pub spelled : bytes ≡ record_bytes kept

-- what is held: any bytes, and the place of the record's among them
pub record HeldBytes : Type 0 where
  pub bytes : List ℕ
  pub place : ℕ

-- the record's bytes
abbrev pub record_among : HeldBytes → List ℕ
record_among h = take record_size (drop h.place h.bytes)

-- what a call is given: the rule's bytes, S, A, the final set, the symbol, and which of the bytes held are lent as its record:
-- `count` of them from `start` on, a wrong number of them too
pub record ByteCall : Type 0 where
  pub rule : List ℕ
  pub states : ℕ
  pub symbols : ℕ
  pub finals : ℕ
  pub symbol : ℕ
  pub start : ℕ
  pub count : ℕ

-- a rule of bytes, and numbers of 64 bits
pub record ByteCallFits (c : ByteCall) : Type 0 where
  pub rule : AreBytes c.rule
  pub states : c.states < 2 ^ 64
  pub symbols : c.symbols < 2 ^ 64
  pub finals : c.finals < 2 ^ 64
  pub symbol : c.symbol < 2 ^ 64

-- the call gives rule m, but for cells past S or A, and symbol a, and is lent the record that is held
pub record ByteCallIs (m : Automaton) (a : ℕ) (c : ByteCall) (h : HeldBytes) : Type 0 where
  pub rule : SameRule m (rule_in c.rule c.states c.symbols c.finals)
  pub symbol : c.symbol ≡ a
  pub start : c.start ≡ h.place
  pub count : c.count ≡ record_size

-- the bytes that a call is lent
abbrev pub lent : ByteCall → List ℕ → List ℕ
lent c bytes = take c.count (drop c.start bytes)

-- what the call reports and leaves of them
abbrev pub taken_on : ByteCall → List ℕ → EventStep
taken_on c bytes = event_taken c.rule c.states c.symbols c.finals c.symbol (lent c bytes)

-- the bytes after a call: those that are not lent stay
abbrev pub bytes_left : ByteCall → List ℕ → List ℕ
bytes_left c bytes = take c.start bytes ++ (record_left (lent c bytes) (taken_on c bytes) ++ drop c.count (drop c.start bytes))

-- across the C call (`dapohiru_event`): the answer is the number returned; an event's call is lent the record, and a call between may be
-- lent any of the bytes, fewer than a record's or more; the bytes around the record are free
abbrev pub call_form : EventForm
call_form =
    record {
      Call = ByteCall;
      Held = HeldBytes;
      Answer = ℕ;
      answer = λ c h. report_number (taken_on c h.bytes).report;
      left = λ c h. record { bytes = bytes_left c h.bytes; place = h.place };
      alarm = alarm_number;
      refusal = refusal_number;
      Passable = ByteCallFits;
      Gives = ByteCallIs;
      Begins = λ q n h. BytesHold q n (record_among h);
      total = λ h. number_at 8 (record_among h) total_place;
    }
