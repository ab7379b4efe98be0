-- Each form has calls that can be passed, and refused ones: the job's rule is spelled by 256 bytes, a cell for each state below S and symbol
-- below A and 0 elsewhere, and bytes of another length are no rule. And each has records in every state, with every total.
-- Assumes nothing.
use mathlib.Core.Path.{◌≡◌, refl, sym, ap, subst}
use mathlib.Core.List.{List, []}
use Prim.Native.Nat.{ℕ, ◌+◌, ◌*◌, ◌^◌, ◌<◌}
use native.Mathlib.Nat.{not-suc-le-zero}
use native.Mathlib.Omega.{arith}
use lib.Seq.{take_all}
use Rattle.laws.specs.Bytes.{AreBytes}
use Rattle.laws.proofs.Bits.{below_says}
use Rattle.laws.proofs.Bytes.{byte_lt}
use Rattle.automaton.specs.Automaton.{Automaton, automaton_of, WellFormed, SameRule}
use Rattle.automaton.specs.Table.{table_of, rule_bytes}
use Rattle.events.specs.Monitor.{refused_with, taken}
use Rattle.events.specs.Form.{Given, GivenFits, value_form, lent_form}
use Rattle.events.specs.declared.Record.{Record}
use Rattle.events.proofs.MonitorLaws.{record_with, taken_13}
use Rattle.automaton.proofs.TableLaws.{table_cell, table_rows, table_columns}
use Rattle.automaton.proofs.RuleBytesLaws.{rule_bytes_length, rule_bytes_are, rule_bytes_same}
use Rattle.events.proofs.FormLaws.{refuses}
use Rattle.twomonitors.specs.Monitors.{RecordsExist, RefusedExist}
use Rattle.twomonitors.proofs.MonitorsMore.{FormGives}
use Rattle.eventbytes.specs.Event.{rule_in, record_size, record_in, event_taken, record_bytes}
use Rattle.eventbytes.specs.Form.{HeldBytes, ByteCall, lent, call_form}
use Rattle.eventbytes.proofs.EventLaws.{rule_of, rule_none}
use Rattle.eventbytes.proofs.FormLaws.{record_bytes_length}
use Rattle.ruleoutcome.specs.RuleCall.{numbers_of}
use Rattle.promise.specs.Promise.{byte_call_with, given_with, GivesRule}

-- ---- the rule as bytes

-- its bytes spell it, but for cells past S or A
pub spelled_same : (m : Automaton) → WellFormed m → SameRule m (rule_in (rule_bytes m) m.states m.symbols m.finals)
spelled_same m wf =
    subst (SameRule m) (sym (rule_of (rule_bytes m) m.states m.symbols m.finals (rule_bytes_length m))) (rule_bytes_same m wf)

-- the final set of a rule is a number of 64 bits
finals_fit : (m : Automaton) → WellFormed m → m.finals < 2 ^ 64
finals_fit m wf = (below_says 64 m.finals).1 (λ q h. omega (arith, wf.finals_below q h, wf.few_states))

-- ---- the calls

-- a table of bytes, with numbers of 64 bits, can be passed by value
given_fits
    : (l : List ℕ) (s a f b : ℕ) → AreBytes l → s < 2 ^ 64 → a < 2 ^ 64 → f < 2 ^ 64 → b < 2 ^ 64
    → GivenFits (record { rule = automaton_of (table_of l) s a f; symbol = b })
given_fits l s a f b bytes hs ha hf hb =
    record {
      rows = table_rows l;
      columns = table_columns l;
      cells = λ q c h k. subst (λ (n : ℕ). n < 256) (sym (table_cell l q c h k)) (byte_lt l (q * 16 + c) bytes);
      states = hs;
      symbols = ha;
      finals = hf;
      symbol = hb;
    }

module _ (m : Automaton) (a : ℕ) (wf : WellFormed m) (small : a < 2 ^ 64) where
  -- the call of an event with the bytes and numbers of the rule can be passed by value
  given_passable : GivenFits (given_with (rule_bytes m) (numbers_of m) a)
  given_passable =
      given_fits (rule_bytes m) _ _ _ a (rule_bytes_are m wf) (omega (arith, wf.few_states, wf.few_symbols))
      (omega (arith, wf.few_states, wf.few_symbols)) (finals_fit m wf) small

  -- it gives the rule and the symbol, on values
  pub value_gives_rule : (r : Record) → GivesRule value_form m a (given_with (rule_bytes m) (numbers_of m) a) r
  value_gives_rule r = record { gives = record { rule = rule_bytes_same m wf; symbol = refl }; passable = given_passable }

  -- on a lent record
  pub lent_gives_rule : (r : Record) → GivesRule lent_form m a (given_with (rule_bytes m) (numbers_of m) a) r
  lent_gives_rule r = record { gives = record { rule = rule_bytes_same m wf; symbol = refl }; passable = given_passable }

  -- across the C call
  pub call_gives_rule : (h : HeldBytes) → GivesRule call_form m a (byte_call_with (rule_bytes m) (numbers_of m) a h) h
  call_gives_rule h =
      record {
        gives = record { rule = spelled_same m wf; symbol = refl; start = refl; count = refl };
        passable = record {
          rule = rule_bytes_are m wf;
          states = omega (arith, wf.few_states);
          symbols = omega (arith, wf.few_symbols);
          finals = finals_fit m wf;
          symbol = small;
        };
      }

-- a symbol of a rule is a number of 64 bits
symbol_fits : (m : Automaton) (a : ℕ) → WellFormed m → a < m.symbols → a < 2 ^ 64
symbol_fits m a wf small = omega (arith, wf.few_symbols)

-- so there are such calls in each form: on values
pub value_gives : FormGives value_form
value_gives =
    record {
      give = λ m a r. given_with (rule_bytes m) (numbers_of m) a;
      gives = λ m a r wf small. (value_gives_rule m a wf (symbol_fits m a wf small) r).gives;
      fits = λ m a r wf small. (value_gives_rule m a wf (symbol_fits m a wf small) r).passable;
    }

-- on a lent record
pub lent_gives : FormGives lent_form
lent_gives =
    record {
      give = λ m a r. given_with (rule_bytes m) (numbers_of m) a;
      gives = λ m a r wf small. (lent_gives_rule m a wf (symbol_fits m a wf small) r).gives;
      fits = λ m a r wf small. (lent_gives_rule m a wf (symbol_fits m a wf small) r).passable;
    }

-- across the C call
pub call_gives : FormGives call_form
call_gives =
    record {
      give = λ m a h. byte_call_with (rule_bytes m) (numbers_of m) a h;
      gives = λ m a h wf small. (call_gives_rule m a wf (symbol_fits m a wf small) h).gives;
      fits = λ m a h wf small. (call_gives_rule m a wf (symbol_fits m a wf small) h).passable;
    }

-- ---- calls that are refused

-- no byte is a rule
none_bytes : AreBytes []
none_bytes i h = absurd (not-suc-le-zero h)

-- 13 on every record
no_rule_refused : (r : Record) → taken (rule_in [] 0 0 0) 0 r ≡ refused_with 13 r
no_rule_refused r = taken_13 (rule_in [] 0 0 0) 0 r (rule_none [] 0 0 0 (λ e. omega arith))

-- by value
no_given : Given
no_given = record { rule = rule_in [] 0 0 0; symbol = 0 }

no_given_passable : GivenFits no_given
unfolding no_given rule_in
no_given_passable = given_fits [] 0 0 0 0 none_bytes (omega arith) (omega arith) (omega arith) (omega arith)

-- on values
pub value_refused : RefusedExist value_form
unfolding no_given
value_refused r = (no_given, no_given_passable, ap refuses (no_rule_refused r))

-- on a lent record
pub lent_refused : RefusedExist lent_form
unfolding no_given
lent_refused r = (no_given, no_given_passable, ap refuses (no_rule_refused r))

-- across the C call
no_byte_call : ByteCall
no_byte_call = record { rule = []; states = 0; symbols = 0; finals = 0; symbol = 0; start = 0; count = record_size }

-- it is refused
pub call_refused : RefusedExist call_form
unfolding no_byte_call event_taken
call_refused h = (
  no_byte_call,
  record { rule = none_bytes; states = omega arith; symbols = omega arith; finals = omega arith; symbol = omega arith },
  ap refuses (no_rule_refused (record_in (lent no_byte_call h.bytes))),
)

-- ---- records

pub value_records : RecordsExist value_form
value_records q n h k = record_with q n

pub lent_records : RecordsExist lent_form
lent_records q n h k = record_with q n

-- across the C call: the record's bytes alone
pub call_records : RecordsExist call_form
call_records q n h k =
    let r = record_with q n in
    let l = record_bytes r.0 in
    let held : HeldBytes = record { bytes = l; place = 0 } in
    (held, record { kept = r.0; is = r.1; spelled = take_all record_size l (omega (arith, record_bytes_length r.0)) })
