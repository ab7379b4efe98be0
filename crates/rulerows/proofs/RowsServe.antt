-- The rule of rows is one as any other: it is well formed, its bytes are those of a rule, 13 does not turn it back, and its R lines are read back
-- as that rule. What is answered is seen by the number.
-- Assumes nothing.
use mathlib.Core.Path.{◌≡◌, refl, sym, ap, ◌∙◌, subst}
use mathlib.Core.Bool.{true}
use mathlib.Core.List.{List, [], ◌++◌}
use Prim.Native.Nat.{ℕ, ◌≤◌, ◌<◌}
use native.Mathlib.Omega.{arith}
use lib.ListN.{length}
use borrow.Author.Tests.{lt-ltb}
use Rattle.callnumber.specs.CallNumber.{accepted_from}
use Rattle.automaton.specs.Automaton.{Automaton, well_formed, WellFormed, SameRule}
use Rattle.automaton.specs.Table.{rule_size, rule_bytes, RuleWritten}
use Rattle.automaton.specs.Made.{Made, makes, refuses, made_after, made_table}
use Rattle.automaton.proofs.AutomatonLaws.{well_formed_says, well_formed_same}
use Rattle.automaton.proofs.RuleBytesLaws.{rule_bytes_same}
use Rattle.automaton.proofs.MadeLaws.{made_says}
use Rattle.lines.specs.Lines.{lines_of}
use Rattle.jobfile.specs.File.{rule_line, accepted}
use Rattle.jobfile.specs.Alike.{Alike}
use Rattle.jobfile.specs.RuleLines.{trimmed, rule_text, with_rule_text}
use Rattle.jobfile.proofs.RuleLinesLaws.{trimmed_exact, rule_lines_say}
use Rattle.rulerows.specs.RuleRows.{rows_made, rows_answer, rows_number}
use Rattle.rulerows.specs.RowsSay.{RowsRefused, other_length, outside, twice, unnamed, MakesRule, RowsLeft, written, unchanged, RowsBytesSay, RowsValueSays, rows_seen, RowsByNumber, rule_left, RowsRuleServes}
use Rattle.rulerows.proofs.TextLaws.{text_within}
use Rattle.rulerows.proofs.RowsSays.{rows_answer_says}

-- ---- the rule

-- a rule that a text makes is well formed
makes_well_formed : (text : List ℕ) (s a f rule : ℕ) (m : Automaton) → MakesRule text s a f rule m → WellFormed m
makes_well_formed text s a f rule m w =
    let fit = w.ready.numbers in
    let is = w.is in
    record {
      some_state = rw is.states fit.some_state;
      few_states = rw is.states fit.few_states;
      some_symbol = rw is.symbols fit.some_symbol;
      few_symbols = rw is.symbols fit.few_symbols;
      next_below = λ q c h k.
          let q_in : q < s = omega (arith, h, is.states) in
          let c_in : c < a = omega (arith, k, is.symbols) in
          let (i, l, n) = w.once.some q c q_in c_in in
          omega (arith, is.cells q c i q_in c_in l n, (text_within s a text w.rows w.ready.rows i l).next_state, is.states);
      finals_below = λ q h. rw is.states (fit.finals_below q (rw (← is.finals) h));
    }

module _ (text : List ℕ) (s a f rule : ℕ) (m : Automaton) (e : rows_made text s a f rule ≡ makes m) where
  -- how it is made
  how : MakesRule text s a f rule m
  how = (rows_answer_says.made text s a f rule m).0 e

  pub made_well_formed : WellFormed m
  made_well_formed = makes_well_formed text s a f rule m how

  -- it has S, A and the final set that are given, so its bytes beside these are that rule
  pub made_same : SameRule m (rule_left (rule_bytes m) s a f)
  made_same =
      subst (λ (x : Automaton). SameRule m x)
      (rw (how.is.states, how.is.symbols, how.is.finals))
      (rule_bytes_same m made_well_formed)

  -- which is well formed
  pub left_well_formed : WellFormed (rule_left (rule_bytes m) s a f)
  left_well_formed =
      (well_formed_says (rule_left (rule_bytes m) s a f)).0
      (sym (well_formed_same m (rule_left (rule_bytes m) s a f) made_same) ∙ (well_formed_says m).1 made_well_formed)

  -- and is the rule without the cells that have no meaning
  left_trimmed : trimmed (rule_left (rule_bytes m) s a f) ≡ m
  left_trimmed =
      let is = how.is in
      trimmed_exact m (rule_left (rule_bytes m) s a f) (is.rows ∙ sym is.states)
      (λ q h. is.columns q (omega (arith, h, is.states)) ∙ sym is.symbols) made_same

-- what is left of the rule buffer
left_bytes : {x : Made} {m : Automaton} (rule : List ℕ) → x ≡ makes m → made_after x rule ≡ rule_bytes m
left_bytes rule e = ap (λ (y : Made). made_after y rule) e

-- the rule of rows as any other
pub rows_rule_serves : RowsRuleServes
rows_rule_serves =
    record {
      well_formed_holds = made_well_formed;
      accepted_by_13 = λ text rule s a f m e.
          subst (λ (l : List ℕ). well_formed (rule_left l s a f) ≡ true) (sym (left_bytes rule e))
          ((well_formed_says (rule_left (rule_bytes m) s a f)).1 (left_well_formed text s a f (length rule) m e));
      lines_read = λ text rule s a f m e rest.
          let x = rule_left (rule_bytes m) s a f in
          let (ls, read, is) = rule_lines_say.read_back x (left_well_formed text s a f (length rule) m e) rest in (
            ls,
            ap (λ (l : List ℕ). lines_of (rule_line s a) s 0 [] (rule_text (rule_left l s a f) ++ rest)) (left_bytes rule e) ∙ read,
            is ∙ left_trimmed text s a f (length rule) m e,
          );
      in_a_job = λ text rule s a f m j file e spell states symbols alike.
          let x = rule_left (rule_bytes m) s a f in
          rule_lines_say.in_a_job x j file (left_well_formed text s a f (length rule) m e) spell states symbols
          (subst (λ (l : List ℕ). Alike (with_rule_text (rule_left l s a f) j) file) (left_bytes rule e) alike)
          ∙ ap (λ (y : Automaton). accepted (record { rule = y; nodes = j.nodes; edges = j.edges }))
          (left_trimmed text s a f (length rule) m e);
    }

-- ---- the bytes

-- the rule buffer after the call
pub rows_bytes_say : RowsBytesSay
rows_bytes_say text rule s a f = go (rows_made text s a f (length rule)) refl
  where
    go : (x : Made) → rows_made text s a f (length rule) ≡ x → RowsLeft rule (made_after x rule) x (rows_answer x)
    go (makes m) e = written (made_says.written m rule (made_well_formed text s a f (length rule) m e))
    go (refuses k) e = unchanged (made_says.unchanged k rule)

-- by value
pub rows_value_says : RowsValueSays
rows_value_says =
    record {
      answer = λ x. refl;
      table = λ text s a f m e.
          subst (RuleWritten m) (sym (ap made_table e)) (made_says.table m (made_well_formed text s a f rule_size m e));
      rule = λ text s a f m e.
          subst (λ (l : List ℕ). SameRule m (rule_left l s a f)) (sym (ap made_table e)) (made_same text s a f rule_size m e);
      none = λ text s a f k e. ap made_table e ∙ made_says.none k;
      same_bytes = λ text rule s a f m long e.
          ap (λ (n : ℕ). made_after (rows_made text s a f n) rule) long ∙ ap (λ (x : Made). made_after x rule) e ∙ sym (ap made_table e);
    }

-- ---- the number

-- that of a refusal is small
refusal_small : (text : List ℕ) (s a f rule k : ℕ) → RowsRefused text s a f rule k → k ≤ 19
refusal_small text s a f rule k (other_length h) = omega arith
refusal_small text s a f rule k (outside same o) = omega arith
refusal_small text s a f rule k (twice same ready t) = omega arith
refusal_small text s a f rule k (unnamed same ready once u) = omega arith

-- the answer is read back
pub rows_by_number : RowsByNumber
rows_by_number =
    record {
      number = λ text s a f rule m e. ap (λ (x : Made). rows_number (rows_answer x)) e;
      read_back = λ text s a f rule. go text s a f rule (rows_made text s a f rule) refl;
    }
  where
    go
        : (text : List ℕ) (s a f rule : ℕ) (x : Made) → rows_made text s a f rule ≡ x
        → rows_seen (rows_number (rows_answer x)) ≡ rows_answer x
    go text s a f rule (makes m) e = refl
    go text s a f rule (refuses k) e =
        simp (lt-ltb k accepted_from (omega (arith, refusal_small text s a f rule k ((rows_answer_says.refused text s a f rule k).0 e))))
