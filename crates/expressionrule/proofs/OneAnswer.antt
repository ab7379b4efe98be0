-- Just one is made for every text, A and rule buffer, so the contract of the call fixes every number and byte.
-- Why: what 20 turns back and what it does not exclude each other, a text spells one expression, and that has one rule or more than 16 states.
-- Assumes nothing.
use Rattle.std.specs.Prelude.{Result}
use mathlib.Core.Path.{◌≡◌, refl, sym, ap, ◌∙◌, subst}
use mathlib.Core.List.{List}
use Prim.Native.Nat.{ℕ}
use native.Mathlib.Omega.{arith}
use lib.ListN.{length}
use Rattle.automaton.specs.Automaton.{Automaton}
use Rattle.automaton.specs.Table.{rule_size}
use Rattle.automaton.specs.Made.{Made, makes, made_after}
use Rattle.expression.specs.Expression.{Expr}
use Rattle.expression.proofs.GrammarLaws.{grammar_says}
use Rattle.expressionrule.specs.ExpressionRule.{RuleOf, ManyStates, Outside, no_symbol, many_symbols, too_long, not_spelt, letter_past, Within, ExpressionMakes, other_length, outside, many, made, expression_answer, expression_number, expression_value, AnswersExpression}
use Rattle.expressionrule.specs.ExpressionSay.{JustOne, ManySays}
use Rattle.expressionrule.proofs.OneRule.{one_rule, many_no_rule}
use Rattle.expressionrule.proofs.MadeBy.{made_by, made_by_lem}
use Rattle.expressionrule.specs.declared.answer.Met.{Met}

-- what 20 turns back is not within
pub not_within : {t : List ℕ} {a : ℕ} {e : Expr} → Outside t a → Within t a e → ⊥
not_within (no_symbol h) w = omega (arith, h, w.some_symbol)
not_within (many_symbols h) w = omega (arith, h, w.few_symbols)
not_within (too_long h) w = omega (arith, h, w.short)
not_within {e = e} (not_spelt h) w = h e w.spelt
not_within (letter_past i l h) w = omega (arith, h, w.letters i l)

-- one expression is within
within_once : (t : List ℕ) (a : ℕ) (d e : Expr) → Within t a d → Within t a e → d ≡ e
within_once t a d e v w = grammar_says.once t d e v.spelt w.spelt

module _ (t : List ℕ) (a rule : ℕ) where
  both : {x y : Made} → ExpressionMakes t a rule x → ExpressionMakes t a rule y → x ≡ y
  both (other_length h) (other_length k) = refl
  both (other_length h) (outside k o) = absurd (h k)
  both (other_length h) (many k w x) = absurd (h k)
  both (other_length h) (made k w r) = absurd (h k)
  both (outside h o) (other_length k) = absurd (k h)
  both (outside h o) (outside k p) = refl
  both (outside h o) (many k w x) = absurd (not_within o w)
  both (outside h o) (made k w r) = absurd (not_within o w)
  both (many h w x) (other_length k) = absurd (k h)
  both (many h w x) (outside k o) = absurd (not_within o w)
  both (many h w x) (many k v y) = refl
  both (many {e = d} h w x) (made {e = e} {m = m} k v r) =
      absurd (many_no_rule a t e m (subst (ManyStates a t) (within_once t a d e w v) x) r)
  both (made h w r) (other_length k) = absurd (k h)
  both (made h w r) (outside k o) = absurd (not_within o w)
  both (made {e = e} {m = m} h w r) (many {e = d} k v x) =
      absurd (many_no_rule a t e m (subst (ManyStates a t) (within_once t a d e v w) x) r)
  both (made {e = d} {m = m} h w r) (made {e = e} {m = n} k v s) =
      ap makes (one_rule a t e v.few_symbols m n (subst (λ (x : Expr). RuleOf a t x m) (within_once t a d e w v) r) s)

-- so one answer, one number, one buffer and one value
pub just_one : JustOne
just_one =
    record {
      some = λ t a rule. (made_by t a rule, made_by_lem t a rule);
      only = λ t a rule x y p q. both t a rule p q;
      some_answer = some_answer;
      some_number = λ t a before.
          let (after, r, x) = some_answer t a before in
          (after, expression_number r, record { answer = r; answers = x; number = refl });
      some_value = λ t a.
          let x = made_by t a rule_size in
          (expression_value x, record { made = x; makes = made_by_lem t a rule_size; value = refl });
      one_answer = one_answer;
      one_number = λ t a before after other k n p q.
          let (answers, buffers) = one_answer t a before after other p.answer q.answer p.answers q.answers in
          (p.number ∙ ap expression_number answers ∙ sym q.number, buffers);
      one_value = λ t a r s p q.
          p.value ∙ ap expression_value (both t a rule_size p.makes q.makes) ∙ sym q.value;
    }
  where
    some_answer
        : (t : List ℕ) (a : ℕ) (before : List ℕ) → (after : List ℕ) × (r : Result Met ℕ) × AnswersExpression t a before after r
    some_answer t a before =
        let x = made_by t a (length before) in
        (made_after x before, expression_answer x, record { made = x; makes = made_by_lem t a (length before); answer = refl; buffer = refl })

    one_answer
        : (t : List ℕ) (a : ℕ) (before after other : List ℕ) (r s : Result Met ℕ) → AnswersExpression t a before after r
        → AnswersExpression t a before other s → (r ≡ s) × (after ≡ other)
    one_answer t a before after other r s p q =
        let same = both t a (length before) p.makes q.makes in (
          p.answer ∙ ap expression_answer same ∙ sym q.answer,
          p.buffer ∙ ap (λ (x : Made). made_after x before) same ∙ sym q.buffer,
        )

-- 21 is for expressions without a rule
pub many_says : ManySays
many_says t a e w = (λ x m r. many_no_rule a t e m x r, λ no_rule. go (made_by t a rule_size) (made_by_lem t a rule_size) no_rule)
  where
    go : (x : Made) → ExpressionMakes t a rule_size x → ((m : Automaton) → RuleOf a t e m → ⊥) → ManyStates a t e
    go x (other_length h) no_rule = absurd (h refl)
    go x (outside h o) no_rule = absurd (not_within o w)
    go x (many {e = d} h v y) no_rule = subst (ManyStates a t) (within_once t a d e v w) y
    go x (made {e = d} {m = m} h v r) no_rule =
        absurd (no_rule m (subst (λ (y : Expr). RuleOf a t y m) (within_once t a d e v w) r))
