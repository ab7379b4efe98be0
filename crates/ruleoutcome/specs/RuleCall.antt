-- The rule of a job as a call (document 01, "The job file" and "Turned back, by number"): its answer, and what it leaves of the lent bytes.
-- Assumes nothing.
use Rattle.std.specs.Prelude.{Result, Ok, Err, cond, List, ℕ, ◌+◌, ◌*◌, ◌^◌, eqb, ltb, replicate}
use Rattle.callnumber.specs.CallNumber.{accepted_from}
use Rattle.automaton.specs.Automaton.{Automaton}
use Rattle.automaton.specs.Table.{rule_size, rule_bytes}
use Rattle.jobfile.specs.File.{Answer, accepted, turned}
use Rattle.buffer.specs.Buffer.{work_size}
use Rattle.admission.specs.Admission.{admitted}
use Rattle.ruleoutcome.specs.declared.rule.RuleNumbers.{RuleNumbers}
use Rattle.rulevalue.specs.declared.WithTable.{WithTable}

-- "any other length is refused as 13 for the rule": a rule buffer is looked at when nothing else is refused
abbrev pub fitted : Answer → ℕ → Answer
fitted (accepted j) rule = cond (eqb rule rule_size) (accepted j) (turned 13)
fitted (turned k) rule = turned k

-- for a work buffer and a rule buffer of these lengths
abbrev pub rule_answer : List ℕ → ℕ → ℕ → Answer
rule_answer file work rule = fitted (admitted file (ltb work work_size)) rule

-- S, A and the final set of a rule
abbrev pub numbers_of : Automaton → RuleNumbers
numbers_of m = record { states = m.states; symbols = m.symbols; finals = m.finals }

-- what the call answers
abbrev pub ruled_of : Answer → Result RuleNumbers ℕ
ruled_of (accepted j) = Ok (numbers_of j.rule)
ruled_of (turned k) = Err k

-- the rule buffer after the call: the bytes of the job's rule; a refusal leaves it
abbrev pub rule_after : Answer → List ℕ → List ℕ
rule_after (accepted j) rule = rule_bytes j.rule
rule_after (turned k) rule = rule

-- by value; "every number or rule it returns beside its own number is zero"
abbrev pub rule_value : Answer → WithTable (Result RuleNumbers ℕ)
rule_value (accepted j) = record { answer = Ok (numbers_of j.rule); table = rule_bytes j.rule }
rule_value (turned k) = record { answer = Err k; table = replicate rule_size 0 }

-- across the C call: 2^48 plus S times 2^32, A times 2^16, and the final set; a refusal is its number
abbrev pub rule_number : Result RuleNumbers ℕ → ℕ
rule_number (Ok n) = accepted_from + n.states * 2 ^ 32 + n.symbols * 2 ^ 16 + n.finals
rule_number (Err k) = k
