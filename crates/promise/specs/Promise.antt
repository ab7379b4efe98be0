-- The third promise (document 01, "Two monitors on one walk"), from the bytes of the job file to the alarms. The lists of calls and both halves
-- are `twomonitors`'s `Monitors.antt`; the forms are `events`'s and `eventbytes`'s `Form.antt`.
-- Assumes nothing.
use Rattle.std.specs.Prelude.{Ok, ◌≡◌, List, ℕ, ◌^◌, ◌≤◌, ◌<◌, length, take}
use Rattle.events.specs.Monitor.{ReportByNumber}
use Rattle.automaton.specs.Automaton.{Automaton, automaton_of}
use Rattle.automaton.specs.Table.{rule_size, table_of}
use Rattle.events.specs.Form.{EventForm, Given, value_form, lent_form}
use Rattle.events.specs.declared.Record.{Record}
use Rattle.job.specs.Job.{Job}
use Rattle.twomonitors.specs.Monitors.{AlarmsKept, PointsNeeded, ListsExist, AnyOrder}
use Rattle.jobfile.specs.File.{accepted, write_job}
use Rattle.jobfile.specs.Alike.{Alike}
use Rattle.jobfile.specs.Spellable.{Spellable}
use Rattle.buffer.specs.Buffer.{work_size}
use Rattle.planoutcome.specs.PlanCall.{plan_size, plan_answer, plan_after}
use Rattle.planoutcome.specs.PlanSays.{PlanBytesSay, SeenByNumber}
use Rattle.ruleoutcome.specs.declared.rule.RuleNumbers.{RuleNumbers}
use Rattle.ruleoutcome.specs.RuleCall.{rule_answer, numbers_of, ruled_of, rule_after, rule_value, rule_number}
use Rattle.ruleoutcome.specs.RuleSays.{RuleBytesSay, ruled_read, RuledByNumber, RuleValueSays}
use Rattle.eventbytes.specs.Event.{record_size}
use Rattle.eventbytes.specs.Form.{HeldBytes, ByteCall, call_form}

-- the plan bytes that planning leaves: those of nodes 0 to N-1
abbrev pub plan_bytes : List ℕ → List ℕ → ℕ → Job → List ℕ
plan_bytes file plan size j = take (length j.nodes) (plan_after (plan_answer file size (length plan)) plan)

-- the statement: planning accepts every job that a file can spell, in every file of that job, with buffers of the stated lengths or more
abbrev pub PlanningAccepts : Type 0
PlanningAccepts =
    (j : Job) (file : List ℕ) → Spellable j → Alike (write_job j) file → (plan : List ℕ) (size : ℕ) → plan_size ≤ length plan
    → work_size ≤ size → plan_answer file size (length plan) ≡ accepted j

-- both halves in one form: for every file, work buffer and plan buffer that planning accepts
abbrev pub BothHalves : EventForm → Type 0
BothHalves f =
    (file plan : List ℕ) (size : ℕ) (j : Job) → plan_answer file size (length plan) ≡ accepted j
    → AlarmsKept f j (plan_bytes file plan size j) × PointsNeeded f j (plan_bytes file plan size j)

-- in one form: both halves, the lists of calls that they are about, and that one list stands for any order of its calls
pub record PromiseIn (f : EventForm) : Type 0 where
  pub both_halves : BothHalves f
  pub lists_exist : ListsExist f
  pub any_order : AnyOrder f

-- ---- the rule that the calls of the event step are given

-- a call of the event step with the bytes and the numbers that the rule call left and returned, lent the record that is held
abbrev pub byte_call_with : List ℕ → RuleNumbers → ℕ → HeldBytes → ByteCall
byte_call_with rule n a h =
    record {
      rule = rule;
      states = n.states;
      symbols = n.symbols;
      finals = n.finals;
      symbol = a;
      start = h.place;
      count = record_size;
    }

-- the same by value, with the rule that `table_of` makes of the table
abbrev pub given_with : List ℕ → RuleNumbers → ℕ → Given
given_with table n a = record { rule = automaton_of (table_of table) n.states n.symbols n.finals; symbol = a }

-- a call that gives this rule and this symbol, as both halves ask of the calls of events, and that can be passed
pub record GivesRule (f : EventForm) (m : Automaton) (a : ℕ) (c : f.Call) (h : f.Held) : Type 0 where
  pub gives : f.Gives m a c h
  pub passable : f.Passable c

-- for a file whose rule is handed over to a rule buffer, with the job: the numbers read back from the number returned are those of the job's
-- rule, and with them the bytes that are left are that rule in every call of the event step across the C call
pub record TiedBytes (file rule : List ℕ) (work : ℕ) (j : Job) : Type 0 where
  pub numbers : ruled_read (rule_number (ruled_of (rule_answer file work (length rule)))) ≡ Ok (numbers_of j.rule)
  pub gives
      : (a : ℕ) → a < 2 ^ 64 → (h : HeldBytes)
      → GivesRule call_form j.rule a (byte_call_with (rule_after (rule_answer file work (length rule)) rule) (numbers_of j.rule) a h) h

-- the same by value: the numbers beside the table, and with them the table, on values and on a lent record
pub record TiedTable (file : List ℕ) (work : ℕ) (j : Job) : Type 0 where
  pub numbers : (rule_value (rule_answer file work rule_size)).answer ≡ Ok (numbers_of j.rule)
  pub gives
      : (a : ℕ) → a < 2 ^ 64 → (h : Record)
      → GivesRule value_form j.rule a (given_with (rule_value (rule_answer file work rule_size)).table (numbers_of j.rule) a) h
  pub gives_lent
      : (a : ℕ) → a < 2 ^ 64 → (h : Record)
      → GivesRule lent_form j.rule a (given_with (rule_value (rule_answer file work rule_size)).table (numbers_of j.rule) a) h

-- the statement: where planning accepts a file, so does the rule call, with the same job; the bytes that it leaves and the numbers that are read
-- back from its number, or the table and the numbers by value, are the rule of that job in every call of the event step; a refusal is told as that
-- refusal and leaves the rule buffer, and by the number a caller sees whether there is such a rule. So a caller who plans with `dapohiru_plan`,
-- takes the rule with `dapohiru_rule` and reports events with `dapohiru_event` has calls as both halves ask for
pub record RuleTied : Type 0 where
  pub rule_accepts
      : (file plan : List ℕ) (size : ℕ) (j : Job) → plan_answer file size (length plan) ≡ accepted j → (work : ℕ) → work_size ≤ work
      → rule_answer file work rule_size ≡ accepted j
  pub in_bytes : (file rule : List ℕ) (work : ℕ) (j : Job) → rule_answer file work (length rule) ≡ accepted j → TiedBytes file rule work j
  pub by_value : (file : List ℕ) (work : ℕ) (j : Job) → rule_answer file work rule_size ≡ accepted j → TiedTable file work j
  pub rule_bytes_holds : RuleBytesSay
  pub rule_value_holds : RuleValueSays
  pub rule_seen : RuledByNumber

-- the third promise: nobody who sees the alarms alone can tell the planned monitor from the fully watched one, and no watched point can
-- be spared, in all three forms of the event step. Planning accepts every job that a file can spell, what it leaves is a plan and no other
-- byte, the rule call hands over such a rule as the promise is about, and a caller reads back from the numbers returned what planning, the
-- rule call and the event step answered
pub record ThirdPromise : Type 0 where
  pub on_values : PromiseIn value_form
  pub on_a_lent_record : PromiseIn lent_form
  pub across_the_c_call : PromiseIn call_form
  pub planning_accepts : PlanningAccepts
  pub plan_bytes_holds : PlanBytesSay
  pub planning_seen : SeenByNumber
  pub rule_tied : RuleTied
  pub report_seen : ReportByNumber
