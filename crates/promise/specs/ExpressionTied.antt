-- The rule made from an expression (document 02, request 6), in the calls of the event step: as the third promise asks of the calls of events, for
-- a job that has this rule. That the R lines written from it give a job this rule is `ExpressionRuleServes` of `expressionrule`.
-- Assumes nothing.
use Rattle.std.specs.Prelude.{List, ℕ, ◌^◌, ◌<◌, length}
use Rattle.automaton.specs.Automaton.{Automaton}
use Rattle.automaton.specs.Table.{rule_size}
use Rattle.automaton.specs.Made.{makes, made_after}
use Rattle.events.specs.Form.{value_form, lent_form}
use Rattle.events.specs.declared.Record.{Record}
use Rattle.eventbytes.specs.Form.{HeldBytes, call_form}
use Rattle.ruleoutcome.specs.declared.rule.RuleNumbers.{RuleNumbers}
use Rattle.expressionrule.specs.declared.answer.Met.{Met}
use Rattle.expressionrule.specs.ExpressionRule.{ExpressionMakes, met_of, expression_value}
use Rattle.promise.specs.Promise.{byte_call_with, given_with, GivesRule}

-- S and the final set as they are answered, A as it is given
abbrev pub numbers_met : ℕ → Met → RuleNumbers
numbers_met a x = record { states = x.states; symbols = a; finals = x.finals }

-- the statement: where an expression makes a rule, the bytes that are left, or the table by value, with the numbers that are answered and A, are
-- that rule in every call of the event step, in all three forms
pub record ExpressionTied : Type 0 where
  pub in_bytes
      : (t rule : List ℕ) (a : ℕ) (m : Automaton) → ExpressionMakes t a (length rule) (makes m) → (b : ℕ) → b < 2 ^ 64 → (h : HeldBytes)
      → GivesRule call_form m b (byte_call_with (made_after (makes m) rule) (numbers_met a (met_of m)) b h) h
  pub by_value
      : (t : List ℕ) (a : ℕ) (m : Automaton) → ExpressionMakes t a rule_size (makes m) → (b : ℕ) → b < 2 ^ 64 → (h : Record)
      → GivesRule value_form m b (given_with (expression_value (makes m)).table (numbers_met a (met_of m)) b) h
  pub on_a_lent_record
      : (t : List ℕ) (a : ℕ) (m : Automaton) → ExpressionMakes t a rule_size (makes m) → (b : ℕ) → b < 2 ^ 64 → (h : Record)
      → GivesRule lent_form m b (given_with (expression_value (makes m)).table (numbers_met a (met_of m)) b) h
