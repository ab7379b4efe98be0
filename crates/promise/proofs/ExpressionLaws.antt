-- The rule of an expression is a rule as the promise is about: well formed, with its bytes and the numbers that are answered.
-- Assumes nothing.
use mathlib.Core.Path.{subst}
use mathlib.Core.List.{List}
use Prim.Native.Nat.{ℕ}
use lib.ListN.{length}
use Rattle.automaton.specs.Automaton.{Automaton}
use Rattle.automaton.specs.Table.{rule_size, rule_bytes}
use Rattle.automaton.specs.Made.{makes}
use Rattle.events.specs.Form.{EventForm, value_form, lent_form}
use Rattle.eventbytes.specs.Form.{call_form}
use Rattle.ruleoutcome.specs.declared.rule.RuleNumbers.{RuleNumbers}
use Rattle.ruleoutcome.specs.RuleCall.{numbers_of}
use Rattle.expressionrule.specs.ExpressionRule.{ExpressionMakes, met_of}
use Rattle.expressionrule.proofs.ExpressionServe.{made_well_formed, made_symbols}
use Rattle.promise.specs.Promise.{byte_call_with, given_with, GivesRule}
use Rattle.promise.specs.ExpressionTied.{numbers_met, ExpressionTied}
use Rattle.promise.proofs.CallsLaws.{value_gives_rule, lent_gives_rule, call_gives_rule}

-- in a form, with the numbers that are answered
given_by
    : (t : List ℕ) (a n : ℕ) (m : Automaton) (x : ExpressionMakes t a n (makes m)) (form : EventForm) (call : RuleNumbers → form.Call) (b : ℕ)
    (h : form.Held)
    → GivesRule form m b (call (numbers_of m)) h → GivesRule form m b (call (numbers_met a (met_of m))) h
given_by t a n m x form call b h given =
    subst (λ (k : ℕ). GivesRule form m b (call (numbers_met k (met_of m))) h) (made_symbols t a n m x) given

-- the rule of an expression is tied to the calls of events
pub expression_tied : ExpressionTied
expression_tied =
    record {
      in_bytes = λ t rule a m x b small h.
          given_by t a (length rule) m x call_form (λ y. byte_call_with (rule_bytes m) y b h) b h
          (call_gives_rule m b (made_well_formed t a (length rule) m x) small h);
      by_value = λ t a m x b small h.
          given_by t a rule_size m x value_form (λ y. given_with (rule_bytes m) y b) b h
          (value_gives_rule m b (made_well_formed t a rule_size m x) small h);
      on_a_lent_record = λ t a m x b small h.
          given_by t a rule_size m x lent_form (λ y. given_with (rule_bytes m) y b) b h
          (lent_gives_rule m b (made_well_formed t a rule_size m x) small h);
    }
