-- The rule call hands over such a rule as the promise is about: where planning accepts a file so does it, and its bytes and the numbers read back
-- from its number are the rule of the job in every form of the event step.
-- Assumes nothing.
use mathlib.Core.Path.{◌≡◌, refl, sym, ap, ◌∙◌, subst}
use mathlib.Core.List.{List}
use Prim.Native.Nat.{ℕ}
use lib.ListN.{length}
use Rattle.automaton.specs.Table.{rule_size, rule_bytes}
use Rattle.job.specs.Job.{Job}
use Rattle.jobfile.specs.File.{Answer, accepted}
use Rattle.events.specs.Form.{EventForm, value_form, lent_form}
use Rattle.eventbytes.specs.Form.{call_form}
use Rattle.planoutcome.proofs.PlanAfterLaws.{plan_answer_reads}
use Rattle.ruleoutcome.specs.RuleCall.{rule_answer, numbers_of, ruled_of, rule_after, rule_value}
use Rattle.ruleoutcome.proofs.RuleLaws.{rule_well_formed}
use Rattle.ruleoutcome.proofs.RuleSays.{rule_bytes_say, rule_answer_says, ruled_by_number, rule_value_says}
use Rattle.promise.specs.Promise.{byte_call_with, given_with, GivesRule, TiedBytes, TiedTable, RuleTied}
use Rattle.promise.proofs.CallsLaws.{value_gives_rule, lent_gives_rule, call_gives_rule}

-- in a form, with the bytes of an answer that is accepted
gives_by
    : (f : EventForm) (call : List ℕ → f.Call) (bytes : Answer → List ℕ) {x : Answer} (j : Job) (a : ℕ) (h : f.Held)
    → ((i : Job) → bytes (accepted i) ≡ rule_bytes i.rule) → x ≡ accepted j
    → GivesRule f j.rule a (call (rule_bytes j.rule)) h → GivesRule f j.rule a (call (bytes x)) h
gives_by f call bytes j a h are e given =
    subst (λ (l : List ℕ). GivesRule f j.rule a (call l) h) (sym (ap bytes e ∙ are j)) given

-- across the C call
tied_bytes : (file rule : List ℕ) (work : ℕ) (j : Job) → rule_answer file work (length rule) ≡ accepted j → TiedBytes file rule work j
tied_bytes file rule work j e =
    let wf = rule_well_formed file work (length rule) j e in
    record {
      numbers = ruled_by_number.read_back file work (length rule) ∙ ap ruled_of e;
      gives = λ a small h.
          gives_by call_form (λ l. byte_call_with l (numbers_of j.rule) a h) (λ x. rule_after x rule) j a h (λ i. refl) e
          (call_gives_rule j.rule a wf small h);
    }

-- by value
tied_table : (file : List ℕ) (work : ℕ) (j : Job) → rule_answer file work rule_size ≡ accepted j → TiedTable file work j
tied_table file work j e =
    let wf = rule_well_formed file work rule_size j e in
    record {
      numbers = rule_value_says.answer (rule_answer file work rule_size) ∙ ap ruled_of e;
      gives = λ a small h.
          gives_by value_form (λ l. given_with l (numbers_of j.rule) a) (λ x. (rule_value x).table) j a h (λ i. refl) e
          (value_gives_rule j.rule a wf small h);
      gives_lent = λ a small h.
          gives_by lent_form (λ l. given_with l (numbers_of j.rule) a) (λ x. (rule_value x).table) j a h (λ i. refl) e
          (lent_gives_rule j.rule a wf small h);
    }

-- the rule is tied to the job that was planned
pub rule_tied : RuleTied
rule_tied =
    record {
      rule_accepts = λ file plan size j e work room.
          (rule_answer_says.accepts file work rule_size j).1 (room, refl, plan_answer_reads file size (length plan) j e);
      in_bytes = tied_bytes;
      by_value = tied_table;
      rule_bytes_holds = rule_bytes_say;
      rule_value_holds = rule_value_says;
      rule_seen = ruled_by_number;
    }
