-- What the answers of the call for an expression say (document 02, request 6): that there is just one for every text and A, the bytes that are
-- left, the number, the alarms on the event step's own definition, and the rule as any other. Statements, with a theorem for each in `proofs/`.
-- Assumes nothing.
use Rattle.std.specs.Prelude.{Result, Err, Ok, ◌≡◌, ◌≢◌, ◌↔◌, true, cond, List, [], ◌∷◌, ◌++◌, ℕ, ◌-◌, ◌/◌, ◌%◌, ◌^◌, ◌<◌, ltb, length, replicate}
use Rattle.callnumber.specs.CallNumber.{accepted_from}
use Rattle.automaton.specs.Automaton.{Automaton, automaton_of, next, well_formed, WellFormed, SameRule}
use Rattle.automaton.specs.Table.{rule_size, table_of, RuleWritten}
use Rattle.automaton.specs.Made.{Made, makes, refuses, made_after}
use Rattle.events.specs.Monitor.{taken}
use Rattle.events.specs.declared.Record.{Record}
use Rattle.job.specs.Job.{Job}
use Rattle.lines.specs.Lines.{lines, lines_of}
use Rattle.jobfile.specs.File.{rule_line, rule_of, accepted, read_job}
use Rattle.jobfile.specs.Alike.{Alike}
use Rattle.jobfile.specs.Spellable.{Spellable}
use Rattle.jobfile.specs.RuleLines.{rule_text, with_rule_text}
use Rattle.expression.specs.Expression.{Expr}
use Rattle.expression.specs.Positions.{Accepts, Events}
use Rattle.rulevalue.specs.declared.WithTable.{WithTable}
use Rattle.expressionrule.specs.ExpressionRule.{run, RuleOf, ManyStates, Within, ExpressionMakes, met_of, expression_answer, expression_value, expression_number, AnswersExpression, NumbersExpression, ValuesExpression}
use Rattle.events.specs.declared.Report.TheVariants.{Quiet, Alarm}
use Rattle.expressionrule.specs.declared.answer.Met.{Met}

-- ---- just one

-- the statement: for every text, A and rule buffer just one is made; so there is an answer, a number, a content of the buffer and a value, and no
-- second one of each
pub record JustOne : Type 0 where
  pub some : (t : List ℕ) (a rule : ℕ) → (x : Made) × ExpressionMakes t a rule x
  pub only : (t : List ℕ) (a rule : ℕ) (x y : Made) → ExpressionMakes t a rule x → ExpressionMakes t a rule y → x ≡ y
  pub some_answer
      : (t : List ℕ) (a : ℕ) (before : List ℕ) → (after : List ℕ) × (r : Result Met ℕ) × AnswersExpression t a before after r
  pub some_number : (t : List ℕ) (a : ℕ) (before : List ℕ) → (after : List ℕ) × (n : ℕ) × NumbersExpression t a before after n
  pub some_value : (t : List ℕ) (a : ℕ) → (r : WithTable (Result Met ℕ)) × ValuesExpression t a r
  pub one_answer
      : (t : List ℕ) (a : ℕ) (before after other : List ℕ) (r s : Result Met ℕ) → AnswersExpression t a before after r
      → AnswersExpression t a before other s → (r ≡ s) × (after ≡ other)
  pub one_number
      : (t : List ℕ) (a : ℕ) (before after other : List ℕ) (k n : ℕ) → NumbersExpression t a before after k
      → NumbersExpression t a before other n → (k ≡ n) × (after ≡ other)
  pub one_value : (t : List ℕ) (a : ℕ) (r s : WithTable (Result Met ℕ)) → ValuesExpression t a r → ValuesExpression t a s → r ≡ s

-- the statement: 21 is for an expression that has no rule of at most 16 states
abbrev pub ManySays : Type 0
ManySays = (t : List ℕ) (a : ℕ) (e : Expr) → Within t a e → ManyStates a t e ↔ ((m : Automaton) → RuleOf a t e m → ⊥)

-- ---- the rule

-- the record after a list of events
unfoldable pub taken_all : Automaton → List ℕ → Record → Record
taken_all m [] r = r
taken_all m (s ∷ w) r = taken_all m w (taken m s r).left

-- the statement, on the event step's own definition: from a record in the start, an event alarms where the events so far form a word, and is
-- quiet where they do not; no event leads back to the start; every state is led to by events
pub record RuleSays (a : ℕ) (t : List ℕ) (e : Expr) (m : Automaton) : Type 0 where
  pub alarm
      : (w : List ℕ) (s : ℕ) (r : Record) → r.state ≡ 0 → Events a (w ++ (s ∷ []))
      → ((taken m s (taken_all m w r)).report ≡ Ok Alarm) ↔ Accepts t e (w ++ (s ∷ []))
  pub quiet
      : (w : List ℕ) (s : ℕ) (r : Record) → r.state ≡ 0 → Events a (w ++ (s ∷ []))
      → ((taken m s (taken_all m w r)).report ≡ Ok Quiet) ↔ (Accepts t e (w ++ (s ∷ [])) → ⊥)
  pub start_apart : (q s : ℕ) → q < m.states → s < a → next m q s ≢ 0
  pub led_to : (q : ℕ) → q < m.states → (w : List ℕ) × Events a w × (run m 0 w ≡ q)
  pub well_formed_holds : WellFormed m

-- the statement: so for every rule that is made
abbrev pub ExpressionRuleSays : Type 0
ExpressionRuleSays = (t : List ℕ) (a : ℕ) (e : Expr) (m : Automaton) → Within t a e → RuleOf a t e m → RuleSays a t e m

-- ---- the bytes

-- the rule buffer after the call: the rule's bytes beside S and the final set; or as it was, beside the refusal's number
pub data ExpressionLeft (before after : List ℕ) : Made → Result Met ℕ → Type 0 where
  written : {m : Automaton} → RuleWritten m after → ExpressionLeft before after (makes m) (Ok (met_of m))
  unchanged : {k : ℕ} → after ≡ before → ExpressionLeft before after (refuses k) (Err k)

-- the statement: the bytes that are left, and the answer, are those
abbrev pub ExpressionBytesSay : Type 0
ExpressionBytesSay =
    (t before after : List ℕ) (a : ℕ) (r : Result Met ℕ) (x : AnswersExpression t a before after r)
    → ExpressionLeft before after x.made r

-- the rule that bytes are, beside S, A and the final set
abbrev pub rule_left : List ℕ → ℕ → Automaton → Automaton
rule_left bytes a m = automaton_of (table_of bytes) m.states a m.finals

-- the statement: the table by value has the bytes that are left in a buffer, and what `table_of` makes of it is the rule; beside a refusal it is
-- zero
pub record ExpressionValueSays : Type 0 where
  pub answer : (x : Made) → (expression_value x).answer ≡ expression_answer x
  pub table
      : (t : List ℕ) (a : ℕ) (m : Automaton) → ExpressionMakes t a rule_size (makes m) → RuleWritten m (expression_value (makes m)).table
  pub rule
      : (t : List ℕ) (a : ℕ) (m : Automaton) → ExpressionMakes t a rule_size (makes m)
      → SameRule m (rule_left (expression_value (makes m)).table a m)
  pub none : (k : ℕ) → (expression_value (refuses k)).table ≡ replicate rule_size 0
  pub same_bytes : (rule : List ℕ) (m : Automaton) → made_after (makes m) rule ≡ (expression_value (makes m)).table

-- ---- the number

-- the answer that a number tells: below 2^48 a refusal, else states and final set
abbrev pub expression_seen : ℕ → Result Met ℕ
expression_seen n =
    cond (ltb n accepted_from) (Err n)
    (Ok (record { states = (n - accepted_from) / 2 ^ 16; finals = (n - accepted_from) % 2 ^ 16 }))

-- the statement: a caller reads the answer back from the number
abbrev pub ExpressionByNumber : Type 0
ExpressionByNumber =
    (t : List ℕ) (a rule : ℕ) (x : Made) → ExpressionMakes t a rule x
    → expression_seen (expression_number (expression_answer x)) ≡ expression_answer x

-- ---- the rule as any other

-- the statement: 13 does not turn the rule back; the R lines written from the bytes that are left are read back as that rule, and in the file of a
-- job of as many states and symbols they are the job's rule
pub record ExpressionRuleServes : Type 0 where
  pub accepted_by_13
      : (t rule : List ℕ) (a : ℕ) (m : Automaton) → ExpressionMakes t a (length rule) (makes m)
      → well_formed (rule_left (made_after (makes m) rule) a m) ≡ true
  pub lines_read
      : (t rule : List ℕ) (a : ℕ) (m : Automaton) → ExpressionMakes t a (length rule) (makes m) → (rest : List ℕ)
      → (ls : List (List ℕ))
      × (lines_of (rule_line m.states a) m.states 0 [] (rule_text (rule_left (made_after (makes m) rule) a m) ++ rest) ≡ lines ls rest)
      × (rule_of m.states a ls ≡ m)
  pub in_a_job
      : (t rule : List ℕ) (a : ℕ) (m : Automaton) (j : Job) (file : List ℕ) → ExpressionMakes t a (length rule) (makes m) → Spellable j
      → j.rule.states ≡ m.states → j.rule.symbols ≡ a → Alike (with_rule_text (rule_left (made_after (makes m) rule) a m) j) file
      → read_job file ≡ accepted (record { rule = m; nodes = j.nodes; edges = j.edges })
