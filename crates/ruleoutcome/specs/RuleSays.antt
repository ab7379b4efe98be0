-- What a caller of the rule call has: the rule's cells in its buffer beside its numbers, each refusal in its order, the work buffer, the answer
-- seen by the number, and the job's rule in the table by value. Statements, with a theorem for each in `proofs/`.
-- Assumes nothing.
use Rattle.std.specs.Prelude.{Result, Ok, Err, ◌≡◌, ◌≢◌, ◌↔◌, cond, List, ℕ, ◌+◌, ◌*◌, ◌/◌, ◌%◌, ◌^◌, ◌≤◌, ◌<◌, ltb, length, replicate}
use Rattle.callnumber.specs.CallNumber.{accepted_from}
use Rattle.automaton.specs.Automaton.{automaton_of, SameRule}
use Rattle.automaton.specs.Table.{rule_size, table_of, RuleWritten}
use Rattle.job.specs.Job.{Job}
use Rattle.jobfile.specs.File.{Answer, accepted, turned, max_file, read_job}
use Rattle.buffer.specs.Buffer.{work_size, cleared}
use Rattle.admission.specs.Admission.{work_after}
use Rattle.ruleoutcome.specs.RuleCall.{rule_answer, ruled_of, rule_after, rule_value, rule_number}
use Rattle.ruleoutcome.specs.declared.rule.RuleNumbers.{RuleNumbers}

-- the rule buffer after the call, for what the file spells and what is answered: the job's rule, beside its S, A and final set; or as it was,
-- beside the refusal's number
pub data RuleLeft (before after : List ℕ) : Answer → Result RuleNumbers ℕ → Type 0 where
  handed_over
      : {j : Job} → RuleWritten j.rule after
      → RuleLeft before after (accepted j)
      (Ok (record { states = j.rule.states; symbols = j.rule.symbols; finals = j.rule.finals }))
  unchanged : {k : ℕ} → after ≡ before → RuleLeft before after (turned k) (Err k)

-- the statement: the bytes that are left, and the answer, are those
abbrev pub RuleBytesSay : Type 0
RuleBytesSay =
    (file rule : List ℕ) (work : ℕ)
    → RuleLeft rule (rule_after (rule_answer file work (length rule)) rule) (rule_answer file work (length rule))
    (ruled_of (rule_answer file work (length rule)))

-- the refusals of the call: 1, 2 for the work buffer, those of the file, and 13 for a rule buffer of another length than 256
pub data RuleRefused (file : List ℕ) (work rule : ℕ) : ℕ → Type 0 where
  too_long : max_file < length file → RuleRefused file work rule 1
  short_work : length file ≤ max_file → work < work_size → RuleRefused file work rule 2
  turned_back : {k : ℕ} → length file ≤ max_file → work_size ≤ work → read_job file ≡ turned k → RuleRefused file work rule k
  other_length : {j : Job} → work_size ≤ work → read_job file ≡ accepted j → rule ≢ rule_size → RuleRefused file work rule 13

-- the statement: it refuses so and no other way, and accepts with the job that the file spells
pub record RuleAnswerSays : Type 0 where
  pub refused : (file : List ℕ) (work rule k : ℕ) → (rule_answer file work rule ≡ turned k) ↔ RuleRefused file work rule k
  pub accepts
      : (file : List ℕ) (work rule : ℕ) (j : Job)
      → (rule_answer file work rule ≡ accepted j) ↔ ((work_size ≤ work) × (rule ≡ rule_size) × (read_job file ≡ accepted j))

-- the statement: "after 1 or 2 the work buffer is unchanged; after any other answer", 13 among them, "its first 65,536 bytes are zero and the
-- rest unchanged"
pub record RuleWorkSays : Type 0 where
  pub left
      : (file work : List ℕ) (rule k : ℕ) → rule_answer file (length work) rule ≡ turned k → 1 ≤ k → k ≤ 2
      → work_after (rule_answer file (length work) rule) work ≡ work
  pub clears
      : (file work : List ℕ) (rule k : ℕ) → rule_answer file (length work) rule ≡ turned k → 3 ≤ k
      → work_after (rule_answer file (length work) rule) work ≡ cleared work
  pub clears_after
      : (file work : List ℕ) (rule : ℕ) (j : Job) → rule_answer file (length work) rule ≡ accepted j
      → work_after (rule_answer file (length work) rule) work ≡ cleared work

-- the answer that a number tells: below 2^48 a refusal, from there on S, A and the final set
abbrev pub ruled_read : ℕ → Result RuleNumbers ℕ
ruled_read n =
    cond (ltb n accepted_from) (Err n)
    (Ok (record { states = n / 2 ^ 32 % 2 ^ 16; symbols = n / 2 ^ 16 % 2 ^ 16; finals = n % 2 ^ 16 }))

-- the statement: the number of a rule that is handed over; a caller sees by the number whether there is one, and reads back its numbers or the
-- refusal
pub record RuledByNumber : Type 0 where
  pub number
      : (file : List ℕ) (work rule : ℕ) (j : Job) → rule_answer file work rule ≡ accepted j
      → rule_number (ruled_of (rule_answer file work rule))
      ≡ accepted_from + j.rule.states * 2 ^ 32 + j.rule.symbols * 2 ^ 16 + j.rule.finals
  pub accepted_seen
      : (file : List ℕ) (work rule : ℕ)
      → (accepted_from ≤ rule_number (ruled_of (rule_answer file work rule))) ↔ ((j : Job) × (rule_answer file work rule ≡ accepted j))
  pub read_back
      : (file : List ℕ) (work rule : ℕ) → ruled_read (rule_number (ruled_of (rule_answer file work rule))) ≡ ruled_of (rule_answer file work rule)

-- the statement: the table by value has the same bytes, and what `table_of` makes of it is the job's rule
pub record RuleValueSays : Type 0 where
  pub answer : (a : Answer) → (rule_value a).answer ≡ ruled_of a
  pub table : (file : List ℕ) (work : ℕ) (j : Job) → rule_answer file work rule_size ≡ accepted j → RuleWritten j.rule (rule_value (accepted j)).table
  pub none : (k : ℕ) → (rule_value (turned k)).table ≡ replicate rule_size 0
  pub rule
      : (file : List ℕ) (work : ℕ) (j : Job) → rule_answer file work rule_size ≡ accepted j
      → SameRule j.rule
      (automaton_of (table_of (rule_value (accepted j)).table) j.rule.states j.rule.symbols j.rule.finals)
