-- A rule that a call makes for its caller (document 02, requests 4 and 6): what is left in the buffer that is lent for it, and by value.
-- Assumes nothing.
use Rattle.std.specs.Prelude.{◌≡◌, List, ℕ, replicate}
use Rattle.automaton.specs.Automaton.{Automaton, WellFormed}
use Rattle.automaton.specs.Table.{rule_size, rule_bytes, RuleWritten}

-- a rule, or a refusal's number
pub data Made : Type 0 where
  makes : Automaton → Made
  refuses : ℕ → Made

-- the rule buffer after the call: the bytes of the rule; a refusal leaves it
abbrev pub made_after : Made → List ℕ → List ℕ
made_after (makes m) rule = rule_bytes m
made_after (refuses k) rule = rule

-- the table by value; "every number or rule it returns beside its own number is zero"
abbrev pub made_table : Made → List ℕ
made_table (makes m) = rule_bytes m
made_table (refuses k) = replicate rule_size 0

-- the statement: a rule that is made stands in the buffer and in the table, every byte of it; a refusal leaves the buffer, and the table is zero
pub record MadeSays : Type 0 where
  pub written : (m : Automaton) (rule : List ℕ) → WellFormed m → RuleWritten m (made_after (makes m) rule)
  pub unchanged : (k : ℕ) (rule : List ℕ) → made_after (refuses k) rule ≡ rule
  pub table : (m : Automaton) → WellFormed m → RuleWritten m (made_table (makes m))
  pub none : (k : ℕ) → made_table (refuses k) ≡ replicate rule_size 0
