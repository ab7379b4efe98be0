-- What the answers of the call for rule rows say (document 02, request 4), of the rows that stand in the text: when a rule is made and which,
-- each refusal in its order, the bytes that are left, and the number. Statements, with a theorem for each in `proofs/`.
-- Assumes nothing.
use Rattle.std.specs.Prelude.{Result, Ok, Err, ◌≡◌, ◌≢◌, ◌⊎◌, ◌↔◌, true, cond, List, [], ◌++◌, map, ℕ, ◌+◌, ◌*◌, ◌≤◌, ◌<◌, ltb, length, drop, get_or, replicate}
use Rattle.laws.specs.Bits.{has}
use Rattle.callnumber.specs.CallNumber.{accepted_from}
use Rattle.automaton.specs.Automaton.{Automaton, automaton_of, next, NumbersFit, well_formed, WellFormed, SameRule}
use Rattle.automaton.specs.Table.{rule_size, table_of, RuleWritten}
use Rattle.automaton.specs.Made.{Made, makes, refuses, made_after}
use Rattle.job.specs.Job.{Job}
use Rattle.lines.specs.Line.{line_length}
use Rattle.lines.specs.Lines.{lines, lines_of}
use Rattle.lines.specs.Written.{LineAt, LinesAt}
use Rattle.jobfile.specs.File.{rule_line, rule_of, accepted, read_job}
use Rattle.jobfile.specs.Alike.{Alike}
use Rattle.jobfile.specs.Spellable.{Spellable}
use Rattle.jobfile.specs.RuleLines.{rule_text, with_rule_text}
use Rattle.rulerows.specs.declared.rows.Row.{Row}
use Rattle.rulerows.specs.RuleRows.{row_of, good_row, row_line, names, max_text, rows_made, rows_answer, rows_value, rows_number}

-- ---- rows

-- the numbers of a row within their limits
pub record RowWithin (s a : ℕ) (r : Row) : Type 0 where
  pub first_state : r.states.first < s
  pub last_state : r.states.last < s
  pub first_symbol : r.symbols.first < a
  pub last_symbol : r.symbols.last < a
  pub next_state : r.next < s
  pub states_rise : r.states.first ≤ r.states.last
  pub symbols_rise : r.symbols.first ≤ r.symbols.last

-- a row names the pair of a state and a symbol
pub record Names (r : Row) (q c : ℕ) : Type 0 where
  pub from_state : r.states.first ≤ q
  pub to_state : q ≤ r.states.last
  pub from_symbol : r.symbols.first ≤ c
  pub to_symbol : c ≤ r.symbols.last

-- row i of some rows
abbrev pub row_at : List Row → ℕ → Row
row_at rs i = get_or rs i (row_of [])

-- a text is exactly these rows, each within its limits
pub record RowsText (s a : ℕ) (text : List ℕ) (rs : List Row) : Type 0 where
  pub lines : List (List ℕ)
  pub stand : LinesAt (row_line s a) (length rs) 0 [] text lines []
  pub are : rs ≡ map row_of lines

-- the statement: what the tests of a row and of the text's length say
pub record RowTestsSay : Type 0 where
  pub within : (s a i : ℕ) (before ns : List ℕ) → (good_row s a i before ns ≡ true) ↔ RowWithin s a (row_of ns)
  pub named : (r : Row) (q c : ℕ) → (names r q c ≡ true) ↔ Names r q c
  pub count : (s a : ℕ) (text : List ℕ) (rs : List Row) → RowsText s a text rs → (length text ≤ max_text) ↔ (length rs ≤ 256)

-- ---- the refusals

-- 17
pub data Outside (text : List ℕ) (s a f : ℕ) : Type 0 where
  -- "the count of rows": more bytes than 256 rows have
  too_long : max_text < length text → Outside text s a f
  -- "S, A": outside 1 to 16
  no_state : s ≡ 0 → Outside text s a f
  many_states : 16 < s → Outside text s a f
  no_symbol : a ≡ 0 → Outside text s a f
  many_symbols : 16 < a → Outside text s a f
  -- "the final set": a final state of S or more
  final_past : (q : ℕ) → has f q ≡ true → s ≤ q → Outside text s a f
  -- "a row's form": bytes where row i is due, and no row stands there
  no_row
      : (i : ℕ) → i * line_length 5 < length text → ((ns : List ℕ) → LineAt 81 5 (drop (i * line_length 5) text) ns → ⊥)
      → Outside text s a f
  -- "a number is outside its limits or a first exceeds a last", in row i
  row_outside
      : (i : ℕ) (ns : List ℕ) → LineAt 81 5 (drop (i * line_length 5) text) ns → (RowWithin s a (row_of ns) → ⊥) → Outside text s a f

-- what 17 does not turn back: the rows of the text
pub record Ready (text : List ℕ) (s a f : ℕ) (rs : List Row) : Type 0 where
  pub short : length text ≤ max_text
  pub numbers : NumbersFit s a f
  pub rows : RowsText s a text rs

-- 18: "two rows name one pair"
pub record Twice (rs : List Row) : Type 0 where
  pub one : ℕ
  pub other : ℕ
  pub state : ℕ
  pub symbol : ℕ
  pub after : one < other
  pub last : other < length rs
  pub first_names : Names (row_at rs one) state symbol
  pub other_names : Names (row_at rs other) state symbol

-- 19: "a pair has no row"
pub record Unnamed (s a : ℕ) (rs : List Row) : Type 0 where
  pub state : ℕ
  pub symbol : ℕ
  pub state_below : state < s
  pub symbol_below : symbol < a
  pub no_row : (i : ℕ) → i < length rs → Names (row_at rs i) state symbol → ⊥

-- k is the first that fails: 13, 17, 18, 19
pub data RowsRefused (text : List ℕ) (s a f rule : ℕ) : ℕ → Type 0 where
  other_length : rule ≢ rule_size → RowsRefused text s a f rule 13
  outside : rule ≡ rule_size → Outside text s a f → RowsRefused text s a f rule 17
  twice : {rs : List Row} → rule ≡ rule_size → Ready text s a f rs → Twice rs → RowsRefused text s a f rule 18
  unnamed
      : {rs : List Row} → rule ≡ rule_size → Ready text s a f rs → (Twice rs → ⊥) → Unnamed s a rs → RowsRefused text s a f rule 19

-- ---- the rule

-- "the rows must name every state and symbol pair just once": every pair has a row, and no pair has two
pub record Once (s a : ℕ) (rs : List Row) : Type 0 where
  pub some : (q c : ℕ) → q < s → c < a → (i : ℕ) × (i < length rs) × Names (row_at rs i) q c
  pub only : (i j q c : ℕ) → i < length rs → j < length rs → Names (row_at rs i) q c → Names (row_at rs j) q c → i ≡ j

-- S rows of A cells, and "every cell holds the next state of its one row"
pub record RuleOfRows (s a f : ℕ) (rs : List Row) (m : Automaton) : Type 0 where
  pub states : m.states ≡ s
  pub symbols : m.symbols ≡ a
  pub finals : m.finals ≡ f
  pub rows : length m.table ≡ s
  pub columns : (q : ℕ) → q < s → length (get_or m.table q []) ≡ a
  pub cells : (q c i : ℕ) → q < s → c < a → i < length rs → Names (row_at rs i) q c → next m q c ≡ (row_at rs i).next

-- a text with its rule
pub record MakesRule (text : List ℕ) (s a f rule : ℕ) (m : Automaton) : Type 0 where
  pub length : rule ≡ rule_size
  pub rows : List Row
  pub ready : Ready text s a f rows
  pub once : Once s a rows
  pub is : RuleOfRows s a f rows m

-- the statement: it refuses so and no other way, and makes that rule and no other; these four refusals and the rule are all that there is
pub record RowsAnswerSays : Type 0 where
  pub refused
      : (text : List ℕ) (s a f rule k : ℕ) → (rows_made text s a f rule ≡ refuses k) ↔ RowsRefused text s a f rule k
  pub made
      : (text : List ℕ) (s a f rule : ℕ) (m : Automaton) → (rows_made text s a f rule ≡ makes m) ↔ MakesRule text s a f rule m
  pub every
      : (text : List ℕ) (s a f rule : ℕ)
      → ((m : Automaton) × MakesRule text s a f rule m) ⊎ ((k : ℕ) × RowsRefused text s a f rule k)

-- ---- the bytes

-- the rule buffer after the call, for what is made and what is answered: the rule's bytes; or as it was, beside the refusal's number
pub data RowsLeft (before after : List ℕ) : Made → Result Unit ℕ → Type 0 where
  written : {m : Automaton} → RuleWritten m after → RowsLeft before after (makes m) (Ok tt)
  unchanged : {k : ℕ} → after ≡ before → RowsLeft before after (refuses k) (Err k)

-- the statement: the bytes that are left, and the answer, are those
abbrev pub RowsBytesSay : Type 0
RowsBytesSay =
    (text rule : List ℕ) (s a f : ℕ)
    → RowsLeft rule (made_after (rows_made text s a f (length rule)) rule) (rows_made text s a f (length rule))
    (rows_answer (rows_made text s a f (length rule)))

-- the statement: the table by value has the bytes that are left in a buffer, and what `table_of` makes of it is the rule; beside a refusal it is
-- zero
pub record RowsValueSays : Type 0 where
  pub answer : (x : Made) → (rows_value x).answer ≡ rows_answer x
  pub table
      : (text : List ℕ) (s a f : ℕ) (m : Automaton) → rows_made text s a f rule_size ≡ makes m
      → RuleWritten m (rows_value (rows_made text s a f rule_size)).table
  pub rule
      : (text : List ℕ) (s a f : ℕ) (m : Automaton) → rows_made text s a f rule_size ≡ makes m
      → SameRule m (automaton_of (table_of (rows_value (rows_made text s a f rule_size)).table) s a f)
  pub none
      : (text : List ℕ) (s a f k : ℕ) → rows_made text s a f rule_size ≡ refuses k
      → (rows_value (rows_made text s a f rule_size)).table ≡ replicate rule_size 0
  pub same_bytes
      : (text rule : List ℕ) (s a f : ℕ) (m : Automaton) → length rule ≡ rule_size → rows_made text s a f rule_size ≡ makes m
      → made_after (rows_made text s a f (length rule)) rule ≡ (rows_value (rows_made text s a f rule_size)).table

-- ---- the number

-- the answer that a number tells: below 2^48 a refusal
abbrev pub rows_seen : ℕ → Result Unit ℕ
rows_seen n = cond (ltb n accepted_from) (Err n) (Ok tt)

-- the statement: a rule is 2^48; a caller sees by the number whether there is one, and reads back the refusal
pub record RowsByNumber : Type 0 where
  pub number
      : (text : List ℕ) (s a f rule : ℕ) (m : Automaton) → rows_made text s a f rule ≡ makes m
      → rows_number (rows_answer (rows_made text s a f rule)) ≡ accepted_from
  pub read_back
      : (text : List ℕ) (s a f rule : ℕ)
      → rows_seen (rows_number (rows_answer (rows_made text s a f rule))) ≡ rows_answer (rows_made text s a f rule)

-- ---- the rule as any other

-- the rule that the bytes are, beside S, A and the final set
abbrev pub rule_left : List ℕ → ℕ → ℕ → ℕ → Automaton
rule_left bytes s a f = automaton_of (table_of bytes) s a f

-- the statement: the rule that comes out is well formed, so that 13 does not turn it back; the R lines written from it are read back as that
-- rule, and in the file of a job of as many states and symbols they are the job's rule
pub record RowsRuleServes : Type 0 where
  pub well_formed_holds : (text : List ℕ) (s a f rule : ℕ) (m : Automaton) → rows_made text s a f rule ≡ makes m → WellFormed m
  pub accepted_by_13
      : (text rule : List ℕ) (s a f : ℕ) (m : Automaton) → rows_made text s a f (length rule) ≡ makes m
      → well_formed (rule_left (made_after (rows_made text s a f (length rule)) rule) s a f) ≡ true
  pub lines_read
      : (text rule : List ℕ) (s a f : ℕ) (m : Automaton) → rows_made text s a f (length rule) ≡ makes m → (rest : List ℕ)
      → (ls : List (List ℕ))
      × (lines_of (rule_line s a) s 0 [] (rule_text (rule_left (made_after (rows_made text s a f (length rule)) rule) s a f) ++ rest)
      ≡ lines ls rest)
      × (rule_of s a ls ≡ m)
  pub in_a_job
      : (text rule : List ℕ) (s a f : ℕ) (m : Automaton) (j : Job) (file : List ℕ) → rows_made text s a f (length rule) ≡ makes m
      → Spellable j → j.rule.states ≡ s → j.rule.symbols ≡ a
      → Alike (with_rule_text (rule_left (made_after (rows_made text s a f (length rule)) rule) s a f) j) file
      → read_job file ≡ accepted (record { rule = m; nodes = j.nodes; edges = j.edges })
