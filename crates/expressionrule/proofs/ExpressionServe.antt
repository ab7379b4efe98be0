-- The rule of an expression is one as any other: it is well formed, it alarms at the words on the event step's own definition, its bytes are those
-- of a rule, 13 does not turn it back, and its R lines are read back as that rule. What is answered is seen by the number.
-- Assumes nothing.
use Rattle.std.specs.Prelude.{Result, Ok}
use mathlib.Core.Path.{◌≡◌, refl, sym, ap, ◌∙◌, subst}
use mathlib.Core.Logic.{◌≢◌, ◌↔◌, ⊎_elim}
use mathlib.Core.Bool.{true, false}
use mathlib.Core.List.{List, [], ◌∷◌, ◌++◌}
use Prim.Native.Nat.{ℕ, ◌+◌, ◌-◌, ◌*◌, ◌/◌, ◌%◌, ◌^◌, ◌≤◌, ◌<◌}
use native.Mathlib.Omega.{arith}
use lib.ListN.{length}
use lib.Dec.{ltb}
use borrow.Author.Tests.{lt-ltb, le-ltb}
use Rattle.laws.proofs.Bits.{members_below}
use Rattle.laws.proofs.Tests.{passes_or_fails}
use Rattle.callnumber.specs.CallNumber.{accepted_from}
use Rattle.automaton.specs.Automaton.{Automaton, next, final, well_formed, WellFormed, SameRule}
use Rattle.automaton.specs.Table.{rule_size, rule_bytes, RuleWritten}
use Rattle.automaton.specs.Made.{Made, makes, refuses, made_after}
use Rattle.automaton.proofs.AutomatonLaws.{well_formed_says, well_formed_same}
use Rattle.automaton.proofs.RuleBytesLaws.{rule_bytes_same}
use Rattle.automaton.proofs.MadeLaws.{made_says}
use Rattle.events.specs.Monitor.{EventStep, taken, moved_to}
use Rattle.events.specs.declared.Record.{Record}
use Rattle.events.proofs.MonitorLaws.{taken_moved, moved_alarm, moved_quiet}
use Rattle.jobfile.specs.File.{accepted}
use Rattle.jobfile.specs.RuleLines.{trimmed}
use Rattle.jobfile.proofs.RuleLinesLaws.{trimmed_exact, rule_lines_say}
use Rattle.expression.specs.Expression.{Expr}
use Rattle.expression.specs.Positions.{Accepts, Events, no_event, event}
use Rattle.expressionrule.specs.ExpressionRule.{run, RuleOf, Within, ExpressionMakes, other_length, outside, many, made, expression_answer}
use Rattle.expressionrule.specs.ExpressionSay.{taken_all, ExpressionRuleSays, ExpressionLeft, written, unchanged, ExpressionBytesSay, rule_left, ExpressionValueSays, expression_seen, ExpressionByNumber, ExpressionRuleServes}
use Rattle.expression.proofs.Reach.{snoc_not_nil}
use Rattle.expressionrule.proofs.DoneLaws.{events_snoc}
use Rattle.expressionrule.proofs.OneRule.{run_snoc, run_below, led_to}
use Rattle.events.specs.declared.Report.{Report}
use Rattle.events.specs.declared.Report.TheVariants.{Quiet, Alarm}
use Rattle.expressionrule.specs.declared.answer.Met.{Met}

-- ---- the rule

-- it is well formed
pub rule_well_formed : (t : List ℕ) (a : ℕ) (e : Expr) (m : Automaton) → Within t a e → RuleOf a t e m → WellFormed m
rule_well_formed t a e m w r =
    record {
      some_state = r.some;
      few_states = r.few;
      some_symbol = rw r.symbols w.some_symbol;
      few_symbols = rw r.symbols w.few_symbols;
      next_below = λ q c h k. r.below q c h (omega (arith, k, r.symbols));
      finals_below = r.finals_below;
    }

module _ (t : List ℕ) (a : ℕ) (e : Expr) (m : Automaton) (w : Within t a e) (r : RuleOf a t e m) where
  fits : well_formed m ≡ true
  fits = (well_formed_says m).1 (rule_well_formed t a e m w r)

  -- an event is taken
  moves : (s : ℕ) (x : Record) → s < a → x.state < m.states → taken m s x ≡ moved_to m (next m x.state s) x
  moves s x l h = taken_moved m s x (next m x.state s) fits (omega (arith, l, r.symbols)) h refl

  -- and moves the record
  moved_state : (q : ℕ) (x : Record) → (moved_to m q x).left.state ≡ q
  moved_state q x =
      ⊎_elim (λ (f : final m q ≡ true). ap (λ (y : EventStep). y.left.state) (moved_alarm m q x f))
      (λ (f : final m q ≡ false). ap (λ (y : EventStep). y.left.state) (moved_quiet m q x f)) (passes_or_fails (final m q))

  -- so a list of events leads the record where it leads the rule
  led : (v : List ℕ) (x : Record) → x.state < m.states → Events a v → (taken_all m v x).state ≡ run m x.state v
  unfolding taken_all run
  led [] x h no_event = refl
  led (s ∷ v) x h (event l es) =
      let y = (taken m s x).left in
      let to : y.state ≡ next m x.state s = ap (λ (z : EventStep). z.left.state) (moves s x l h) ∙ moved_state (next m x.state s) x in
      led v y (omega (arith, to, r.below x.state s h l)) es ∙ ap (λ (q : ℕ). run m q v) to

  front : (v : List ℕ) (s : ℕ) → Events a (v ++ (s ∷ [])) → Events a v
  front [] s es = no_event
  front (x ∷ v) s (event l es) = event l (front v s es)

  back : (v : List ℕ) (s : ℕ) → Events a (v ++ (s ∷ [])) → s < a
  back [] s (event l es) = l
  back (x ∷ v) s (event l es) = back v s es

  -- a list of one event or more has a first
  at_words : (v : List ℕ) (s : ℕ) → Events a (v ++ (s ∷ [])) → (final m (run m 0 (v ++ (s ∷ []))) ≡ true) ↔ Accepts t e (v ++ (s ∷ []))
  at_words [] s es = r.alarms s [] es
  at_words (x ∷ v) s es = r.alarms x (v ++ (s ∷ [])) es

  -- the event after a list of events moves to the state of them all
  last_event
      : (v : List ℕ) (s : ℕ) (x : Record) → x.state ≡ 0 → Events a (v ++ (s ∷ []))
      → taken m s (taken_all m v x) ≡ moved_to m (run m 0 (v ++ (s ∷ []))) (taken_all m v x)
  last_event v s x z es =
      let to : (taken_all m v x).state ≡ run m 0 v = led v x (omega (arith, z, r.some)) (front v s es) ∙ ap (λ (q : ℕ). run m q v) z in
      moves s (taken_all m v x) (back v s es) (omega (arith, to, run_below a t e m r v 0 (front v s es) r.some))
      ∙ ap (λ (q : ℕ). moved_to m q (taken_all m v x)) (ap (λ (q : ℕ). next m q s) to ∙ sym (run_snoc m 0 v s))

  module _ (v : List ℕ) (s : ℕ) (x : Record) (z : x.state ≡ 0) (es : Events a (v ++ (s ∷ []))) where
    alarms : final m (run m 0 (v ++ (s ∷ []))) ≡ true → (taken m s (taken_all m v x)).report ≡ Ok Alarm
    alarms f =
        ap (λ (y : EventStep). y.report) (last_event v s x z es ∙ moved_alarm m (run m 0 (v ++ (s ∷ []))) (taken_all m v x) f)

    quiets : final m (run m 0 (v ++ (s ∷ []))) ≡ false → (taken m s (taken_all m v x)).report ≡ Ok Quiet
    quiets f =
        ap (λ (y : EventStep). y.report) (last_event v s x z es ∙ moved_quiet m (run m 0 (v ++ (s ∷ []))) (taken_all m v x) f)

    not_both : (taken m s (taken_all m v x)).report ≡ Ok Alarm → (taken m s (taken_all m v x)).report ≡ Ok Quiet → ⊥
    not_both i j = let k : ◌≡◌ {A = Result Report ℕ} (Ok Alarm) (Ok Quiet) = sym i ∙ j in let n : ◌≡◌ {A = ℕ} 0 1 = cc in omega arith

    alarm_says : ((taken m s (taken_all m v x)).report ≡ Ok Alarm) ↔ Accepts t e (v ++ (s ∷ []))
    alarm_says = (
      λ i. ⊎_elim (λ (f : final m (run m 0 (v ++ (s ∷ []))) ≡ true). (at_words v s es).0 f)
          (λ (f : final m (run m 0 (v ++ (s ∷ []))) ≡ false). absurd (not_both i (quiets f)))
          (passes_or_fails (final m (run m 0 (v ++ (s ∷ []))))),
      λ i. alarms ((at_words v s es).1 i),
    )

    quiet_says : ((taken m s (taken_all m v x)).report ≡ Ok Quiet) ↔ (Accepts t e (v ++ (s ∷ [])) → ⊥)
    quiet_says = (
      λ i j. not_both (alarms ((at_words v s es).1 j)) i,
      λ i. ⊎_elim (λ (f : final m (run m 0 (v ++ (s ∷ []))) ≡ true). absurd (i ((at_words v s es).0 f)))
          (λ (f : final m (run m 0 (v ++ (s ∷ []))) ≡ false). quiets f) (passes_or_fails (final m (run m 0 (v ++ (s ∷ []))))),
    )

  -- no event leads back to the start
  start_apart : (q s : ℕ) → q < m.states → s < a → next m q s ≢ 0
  unfolding run
  start_apart q s h l z =
      let (v, es, to) = led_to a t e m r q h in
      let same = (r.states (v ++ (s ∷ [])) [] (events_snoc es l) no_event).0 (run_snoc m 0 v s ∙ ap (λ (k : ℕ). next m k s) to ∙ z) in
      snoc_not_nil v s (same.start.1 refl)

-- what is said of every rule that is made
pub expression_rule_says : ExpressionRuleSays
expression_rule_says t a e m w r =
    record {
      alarm = alarm_says t a e m w r;
      quiet = quiet_says t a e m w r;
      start_apart = start_apart t a e m w r;
      led_to = led_to a t e m r;
      well_formed_holds = rule_well_formed t a e m w r;
    }

-- ---- the rule that is made

-- the rule that is made is one of an expression
record Source (t : List ℕ) (a rule : ℕ) (m : Automaton) : Type 0 where
  expr : Expr
  within : Within t a expr
  is : RuleOf a t expr m

source : {t : List ℕ} {a rule : ℕ} {m : Automaton} → ExpressionMakes t a rule (makes m) → Source t a rule m
source (made {e = e} same w r) = record { expr = e; within = w; is = r }

module _ (t : List ℕ) (a rule : ℕ) (m : Automaton) (x : ExpressionMakes t a rule (makes m)) where
  pub made_well_formed : WellFormed m
  made_well_formed = let s = source x in rule_well_formed t a s.expr m s.within s.is

  pub made_symbols : m.symbols ≡ a
  made_symbols = (source x).is.symbols

  -- its bytes beside S, A and the final set are that rule
  pub made_same : SameRule m (rule_left (rule_bytes m) a m)
  made_same =
      subst (λ (n : ℕ). SameRule m (rule_left (rule_bytes m) n m)) made_symbols (rule_bytes_same m made_well_formed)

  -- which is well formed
  left_well_formed : WellFormed (rule_left (rule_bytes m) a m)
  left_well_formed =
      (well_formed_says (rule_left (rule_bytes m) a m)).0
      (sym (well_formed_same m (rule_left (rule_bytes m) a m) made_same) ∙ (well_formed_says m).1 made_well_formed)

  -- and is the rule without the cells that have no meaning
  left_trimmed : trimmed (rule_left (rule_bytes m) a m) ≡ m
  left_trimmed =
      let is = (source x).is in
      trimmed_exact m (rule_left (rule_bytes m) a m) is.rows (λ q h. is.columns q h ∙ sym is.symbols) made_same

-- the rule of an expression as any other
pub expression_rule_serves : ExpressionRuleServes
expression_rule_serves =
    record {
      accepted_by_13 = λ t rule a m x.
          (well_formed_says (rule_left (rule_bytes m) a m)).1 (left_well_formed t a (length rule) m x);
      lines_read = λ t rule a m x rest.
          let (ls, read, is) = rule_lines_say.read_back (rule_left (rule_bytes m) a m) (left_well_formed t a (length rule) m x) rest in
          (ls, read, is ∙ left_trimmed t a (length rule) m x);
      in_a_job = λ t rule a m j file x spell states symbols alike.
          rule_lines_say.in_a_job (rule_left (rule_bytes m) a m) j file (left_well_formed t a (length rule) m x) spell states symbols alike
          ∙ ap (λ (y : Automaton). accepted (record { rule = y; nodes = j.nodes; edges = j.edges }))
          (left_trimmed t a (length rule) m x);
    }

-- ---- the bytes

-- the rule buffer after the call
pub expression_bytes_say : ExpressionBytesSay
expression_bytes_say t before after a r x = go x.made x.makes x.answer x.buffer
  where
    go
        : (y : Made) → ExpressionMakes t a (length before) y → r ≡ expression_answer y → after ≡ made_after y before
        → ExpressionLeft before after y r
    go (makes m) z e b =
        subst (λ (k : Result Met ℕ). ExpressionLeft before after (makes m) k) (sym e)
        (written (subst (RuleWritten m) (sym b) (made_says.written m before (made_well_formed t a (length before) m z))))
    go (refuses k) z e b =
        subst (λ (i : Result Met ℕ). ExpressionLeft before after (refuses k) i) (sym e) (unchanged b)

-- by value
pub expression_value_says : ExpressionValueSays
expression_value_says =
    record {
      answer = λ x. refl;
      table = λ t a m x. made_says.table m (made_well_formed t a rule_size m x);
      rule = λ t a m x. made_same t a rule_size m x;
      none = λ k. made_says.none k;
      same_bytes = λ rule m. refl;
    }

-- ---- the number

-- S and the final set fit their fields
pub made_fits : (t : List ℕ) (a rule : ℕ) (m : Automaton) → ExpressionMakes t a rule (makes m) → (m.states ≤ 16) × (m.finals < 2 ^ 16)
made_fits t a rule m x =
    let wf = made_well_formed t a rule m x in
    (wf.few_states, members_below 16 m.finals (λ q h. omega (arith, wf.finals_below q h, wf.few_states)))

refusal_small : {t : List ℕ} {a rule k : ℕ} → ExpressionMakes t a rule (refuses k) → k ≤ 21
refusal_small (other_length h) = omega arith
refusal_small (outside same o) = omega arith
refusal_small (many same w x) = omega arith

-- the answer is read back
pub expression_by_number : ExpressionByNumber
expression_by_number t a rule (refuses k) x = simp (lt-ltb k accepted_from (omega (arith, refusal_small x)))
expression_by_number t a rule (makes m) x =
    read_back m.states m.finals (made_fits t a rule m x).1
  where
    read_back : (s f : ℕ) → f < 2 ^ 16 → expression_seen (accepted_from + s * 2 ^ 16 + f) ≡ Ok (record { states = s; finals = f })
    read_back s f small =
        let big : ltb (accepted_from + s * 2 ^ 16 + f) accepted_from ≡ false =
        le-ltb (accepted_from + s * 2 ^ 16 + f) accepted_from (omega arith) in
        let states : (accepted_from + s * 2 ^ 16 + f - accepted_from) / 2 ^ 16 ≡ s = omega (arith, small) in
        let finals : (accepted_from + s * 2 ^ 16 + f - accepted_from) % 2 ^ 16 ≡ f = omega (arith, small) in
        simp (big, states, finals)
