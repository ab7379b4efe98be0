-- The rule made from an expression (document 02, request 6): its states, its alarms and its numbering, what is refused, and the call's answer.
-- Nothing here searches or reads: each is said of lists of events and of what the text spells.
-- Assumes nothing.
use Rattle.std.specs.Prelude.{Result, Ok, Err, ◌≡◌, ◌≢◌, ◌↔◌, true, false, List, [], ◌∷◌, ℕ, ◌+◌, ◌*◌, ◌^◌, ◌≤◌, ◌<◌, length, get_or}
use Rattle.callnumber.specs.CallNumber.{accepted_from}
use Rattle.automaton.specs.Automaton.{Automaton, next, final}
use Rattle.automaton.specs.Table.{rule_size}
use Rattle.automaton.specs.Made.{Made, makes, refuses, made_after, made_table}
use Rattle.expression.specs.Expression.{Expr}
use Rattle.expression.specs.Grammar.{IsLetter, Text}
use Rattle.expression.specs.Positions.{symbol_at, Accepts, Events, SameState}
use Rattle.expressionrule.specs.declared.answer.Met.{Met}
use Rattle.rulevalue.specs.declared.WithTable.{WithTable}

-- ---- the rule

-- the state that a list of events leads to
unfoldable pub run : Automaton → ℕ → List ℕ → ℕ
run m q [] = q
run m q (s ∷ w) = run m (next m q s) w

-- "numbered as first met breadth first with symbols ascending": rows are gone through in the order of their states, each symbol by symbol, and
-- the cells before the one where state k is met hold lower numbers; q * 16 + s is that order, since A is at most 16
pub record FirstMet (next : ℕ → ℕ → ℕ) (a k : ℕ) : Type 0 where
  pub row : ℕ
  pub column : ℕ
  pub above : row < k
  pub within : column < a
  pub here : next row column ≡ k
  pub before : (q s : ℕ) → s < a → q * 16 + s < row * 16 + column → next q s < k

-- the rule of the expression e that the text t spells, for the first a symbols
pub record RuleOf (a : ℕ) (t : List ℕ) (e : Expr) (m : Automaton) : Type 0 where
  pub symbols : m.symbols ≡ a
  pub some : 1 ≤ m.states
  pub few : m.states ≤ 16
  -- "states are the start, and for each list of one or more events the set of letter positions that its last event can stand for": so the start
  -- is led to by no event
  pub states : (v w : List ℕ) → Events a v → Events a w → (run m 0 v ≡ run m 0 w) ↔ SameState t e v w
  -- every state that is led to has a number below S, and each of these is first met in its turn
  pub below : (q s : ℕ) → q < m.states → s < a → next m q s < m.states
  pub numbered : (k : ℕ) → 1 ≤ k → k < m.states → FirstMet (next m) a k
  -- "alarms at an event exactly when the events so far form a word of the expression's language"
  pub alarms : (s : ℕ) (w : List ℕ) → Events a (s ∷ w) → (final m (run m 0 (s ∷ w)) ≡ true) ↔ Accepts t e (s ∷ w)
  -- "the start is not final", and no final state is S or more
  pub quiet_start : final m 0 ≡ false
  pub finals_below : (q : ℕ) → final m q ≡ true → q < m.states
  -- S rows of A cells
  pub rows : length m.table ≡ m.states
  pub columns : (q : ℕ) → q < m.states → length (get_or m.table q []) ≡ a

-- "more than 16 states are met": seventeen lists of events of different states
pub record ManyStates (a : ℕ) (t : List ℕ) (e : Expr) : Type 0 where
  pub word : (i : ℕ) → i < 17 → List ℕ
  pub events : (i : ℕ) (h : i < 17) → Events a (word i h)
  pub differ : (i j : ℕ) (h : i < 17) (k : j < 17) → SameState t e (word i h) (word j k) → i ≡ j

-- ---- what is made

-- "at most 64 characters"
abbrev pub max_text : ℕ
max_text = 64

-- 20
pub data Outside (t : List ℕ) (a : ℕ) : Type 0 where
  -- "an A outside its limits"
  no_symbol : a ≡ 0 → Outside t a
  many_symbols : 16 < a → Outside t a
  -- "a text that is too long"
  too_long : max_text < length t → Outside t a
  -- "outside the grammar"
  not_spelt : ((e : Expr) → Text t e → ⊥) → Outside t a
  -- "with a letter past A"
  letter_past : (i : ℕ) → IsLetter 16 t i → a ≤ symbol_at t i → Outside t a

-- what 20 does not turn back
pub record Within (t : List ℕ) (a : ℕ) (e : Expr) : Type 0 where
  pub some_symbol : 1 ≤ a
  pub few_symbols : a ≤ 16
  pub short : length t ≤ max_text
  pub spelt : Text t e
  pub letters : (i : ℕ) → IsLetter 16 t i → symbol_at t i < a

-- what is made of a text and A with a rule buffer of this length: "any other length is refused as 13 for the rule", before all else; then 20;
-- "then 21 when more than 16 states are met"; or the rule
pub data ExpressionMakes (t : List ℕ) (a rule : ℕ) : Made → Type 0 where
  other_length : rule ≢ rule_size → ExpressionMakes t a rule (refuses 13)
  outside : rule ≡ rule_size → Outside t a → ExpressionMakes t a rule (refuses 20)
  many : {e : Expr} → rule ≡ rule_size → Within t a e → ManyStates a t e → ExpressionMakes t a rule (refuses 21)
  made : {e : Expr} {m : Automaton} → rule ≡ rule_size → Within t a e → RuleOf a t e m → ExpressionMakes t a rule (makes m)

-- ---- the answer

-- S and the final set
abbrev pub met_of : Automaton → Met
met_of m = record { states = m.states; finals = m.finals }

-- what the call answers
abbrev pub expression_answer : Made → Result Met ℕ
expression_answer (makes m) = Ok (met_of m)
expression_answer (refuses k) = Err k

-- by value
abbrev pub expression_value : Made → WithTable (Result Met ℕ)
expression_value x = record { answer = expression_answer x; table = made_table x }

-- across the C call: 2^48 plus states times 2^16 and the final set; a refusal is its number
abbrev pub expression_number : Result Met ℕ → ℕ
expression_number (Ok x) = accepted_from + x.states * 2 ^ 16 + x.finals
expression_number (Err k) = k

-- the answer and the rule buffer after the call are those of what is made; by `JustOne` there is one such answer, and one content of the buffer
pub record AnswersExpression (t : List ℕ) (a : ℕ) (before after : List ℕ) (r : Result Met ℕ) : Type 0 where
  pub made : Made
  pub makes : ExpressionMakes t a (length before) made
  pub answer : r ≡ expression_answer made
  pub buffer : after ≡ made_after made before

-- the same across the C call
pub record NumbersExpression (t : List ℕ) (a : ℕ) (before after : List ℕ) (n : ℕ) : Type 0 where
  pub answer : Result Met ℕ
  pub answers : AnswersExpression t a before after answer
  pub number : n ≡ expression_number answer

-- and by value
pub record ValuesExpression (t : List ℕ) (a : ℕ) (r : WithTable (Result Met ℕ)) : Type 0 where
  pub made : Made
  pub makes : ExpressionMakes t a rule_size made
  pub value : r ≡ expression_value made
