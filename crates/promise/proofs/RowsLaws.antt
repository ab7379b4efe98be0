-- The rule that rows make is a rule as the promise is about: well formed, with its bytes and the numbers that were given.
-- Assumes nothing.
use mathlib.Core.Path.{◌≡◌, refl, sym, ap, ◌∙◌, subst}
use mathlib.Core.List.{List}
use Prim.Native.Nat.{ℕ}
use lib.ListN.{length}
use Rattle.automaton.specs.Automaton.{Automaton}
use Rattle.automaton.specs.Table.{rule_size, rule_bytes}
use Rattle.automaton.specs.Made.{Made, makes, made_after, made_table}
use Rattle.events.specs.Form.{EventForm, value_form, lent_form}
use Rattle.eventbytes.specs.Form.{call_form}
use Rattle.ruleoutcome.specs.declared.rule.RuleNumbers.{RuleNumbers}
use Rattle.ruleoutcome.specs.RuleCall.{numbers_of}
use Rattle.rulerows.specs.RuleRows.{rows_made}
use Rattle.rulerows.proofs.RowsServe.{made_well_formed, made_same}
use Rattle.promise.specs.Promise.{byte_call_with, given_with, GivesRule}
use Rattle.promise.specs.RowsTied.{numbers_given, RowsTied}
use Rattle.promise.proofs.CallsLaws.{value_gives_rule, lent_gives_rule, call_gives_rule}

module _ (text : List ℕ) (s a f n : ℕ) (m : Automaton) (e : rows_made text s a f n ≡ makes m) where
  -- the numbers of the rule are those that were given
  numbers_are : numbers_of m ≡ numbers_given s a f
  numbers_are =
      let same = made_same text s a f n m e in
      rw (same.states, same.symbols, same.finals)

  -- in a form, with the bytes of what is made
  given_by
      : (form : EventForm) (call : List ℕ → RuleNumbers → form.Call) (bytes : Made → List ℕ) (b : ℕ) (h : form.Held)
      → bytes (makes m) ≡ rule_bytes m → GivesRule form m b (call (rule_bytes m) (numbers_of m)) h
      → GivesRule form m b (call (bytes (rows_made text s a f n)) (numbers_given s a f)) h
  given_by form call bytes b h are given =
      subst (λ (l : List ℕ). GivesRule form m b (call l (numbers_given s a f)) h) (sym (ap bytes e ∙ are))
      (subst (λ (x : RuleNumbers). GivesRule form m b (call (rule_bytes m) x) h) numbers_are given)

-- the rule of rows is tied to the calls of events
pub rows_tied : RowsTied
rows_tied =
    record {
      in_bytes = λ text rule s a f m e b small h.
          given_by text s a f (length rule) m e call_form (λ l x. byte_call_with l x b h) (λ x. made_after x rule) b h refl
          (call_gives_rule m b (made_well_formed text s a f (length rule) m e) small h);
      by_value = λ text s a f m e b small h.
          given_by text s a f rule_size m e value_form (λ l x. given_with l x b) made_table b h refl
          (value_gives_rule m b (made_well_formed text s a f rule_size m e) small h);
      on_a_lent_record = λ text s a f m e b small h.
          given_by text s a f rule_size m e lent_form (λ l x. given_with l x b) made_table b h refl
          (lent_gives_rule m b (made_well_formed text s a f rule_size m e) small h);
    }
