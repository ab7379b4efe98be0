-- The rule that rows make (document 02, request 4), in the calls of the event step: as the third promise asks of the calls of events, for a job
-- that has this rule. That the R lines written from it give a job this rule is `RowsRuleServes` of `rulerows`.
-- Assumes nothing.
use Rattle.std.specs.Prelude.{◌≡◌, List, ℕ, ◌^◌, ◌<◌, length}
use Rattle.automaton.specs.Automaton.{Automaton}
use Rattle.automaton.specs.Table.{rule_size}
use Rattle.automaton.specs.Made.{makes, made_after}
use Rattle.events.specs.Form.{value_form, lent_form}
use Rattle.events.specs.declared.Record.{Record}
use Rattle.eventbytes.specs.Form.{HeldBytes, call_form}
use Rattle.ruleoutcome.specs.declared.rule.RuleNumbers.{RuleNumbers}
use Rattle.rulerows.specs.RuleRows.{rows_made, rows_value}
use Rattle.promise.specs.Promise.{byte_call_with, given_with, GivesRule}

-- S, A and the final set as they are given to the call
abbrev pub numbers_given : ℕ → ℕ → ℕ → RuleNumbers
numbers_given s a f = record { states = s; symbols = a; finals = f }

-- the statement: where rows make a rule, the bytes that are left, or the table by value, with the numbers that were given, are that rule in every
-- call of the event step, in all three forms
pub record RowsTied : Type 0 where
  pub in_bytes
      : (text rule : List ℕ) (s a f : ℕ) (m : Automaton) → rows_made text s a f (length rule) ≡ makes m → (b : ℕ) → b < 2 ^ 64 → (h : HeldBytes)
      → GivesRule call_form m b (byte_call_with (made_after (rows_made text s a f (length rule)) rule) (numbers_given s a f) b h) h
  pub by_value
      : (text : List ℕ) (s a f : ℕ) (m : Automaton) → rows_made text s a f rule_size ≡ makes m → (b : ℕ) → b < 2 ^ 64 → (h : Record)
      → GivesRule value_form m b (given_with (rows_value (rows_made text s a f rule_size)).table (numbers_given s a f) b) h
  pub on_a_lent_record
      : (text : List ℕ) (s a f : ℕ) (m : Automaton) → rows_made text s a f rule_size ≡ makes m → (b : ℕ) → b < 2 ^ 64 → (h : Record)
      → GivesRule lent_form m b (given_with (rows_value (rows_made text s a f rule_size)).table (numbers_given s a f) b) h
