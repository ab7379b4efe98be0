-- What the backward searches leave in the class rows, and what is read off rows at a point.
-- Inner contracts: what functions ask of and leave to each other. No promise is stated in them; a reader need not believe them.
-- Assumes nothing.
use Rattle.std.specs.Prelude.{◌≡◌, ◌⊎◌, Bool, true, cond, not, ◌&&◌, ◌||◌, List, ℕ, ◌+◌, ◌≤◌, ◌<◌, eqb, get_or}
use Rattle.std.specs.Int.Bits.{bit_or}
use Rattle.laws.specs.Bounded.{any_below, all_below}
use Rattle.laws.specs.Bits.{has}
use Rattle.automaton.specs.Automaton.{Automaton, next, cell, WellFormed}
use Rattle.job.specs.Job.{Node, Job}
use Rattle.job.specs.Words.{WordApart}
use Rattle.job.specs.Search.{apart}
use Rattle.job.specs.Found.{set_of}
use Rattle.buffer.specs.Views.{node_in, pair_row_in, class_row_in, HeldApart}
use Rattle.buffer.specs.ClassRows.{OnlyClasses, OnlyClassesOf, apart_left}
use Rattle.tables.specs.Rows.{unlike_states}
use Rattle.tables.specs.Held.{JobHeld, AfterHeld}
use Rattle.tables.specs.Sixteen.{InRows, Sixteen, rows_left}

-- the table, S and the final set are this rule
pub record RuleHeld (m : Automaton) (table : List (List ℕ)) (finals states : ℕ) : Type 0 where
  pub formed : WellFormed m
  pub states_are : states ≡ m.states
  pub finals_are : finals ≡ m.finals
  pub cells : (q a : ℕ) → q < 16 → a < 16 → cell table q a ≡ next m q a

-- the states told apart from p by a symbol: at once, or by what follows it
abbrev pub apart_by : List (List ℕ) → ℕ → (ℕ → ℕ) → ℕ → ℕ → ℕ → Bool
apart_by table finals rows a p q = has (bit_or (rows (cell table p a)) (unlike_states finals (cell table p a))) (cell table q a)

-- the states below S told apart from p by some symbol of a set
unfoldable pub word_row : List (List ℕ) → ℕ → ℕ → (ℕ → ℕ) → ℕ → ℕ → ℕ
word_row table finals states rows set p = set_of states (λ q. any_below 16 (λ a. has set a && apart_by table finals rows a p q))

-- sixteen rows by value, each by its number
abbrev pub rows_of : List ℕ → ℕ → ℕ
rows_of rows p = get_or rows p 0

-- the pairs of rows that are given by their numbers
abbrev pub RowPairs : (ℕ → ℕ) → ℕ → ℕ → Type 0
RowPairs rows p q = (p < 16) × (has (rows p) q ≡ true)

-- every pair of sixteen rows is told apart by a word over the set, or by what the rows after it have
abbrev pub WordsIn : Automaton → ℕ → (ℕ → ℕ) → List ℕ → Type 0
WordsIn a set more rows = (p q : ℕ) → p < 16 → InRows rows p q → WordApart a set (RowPairs more) p q

-- one round of words over a set on sixteen rows; grown is the number of rows that grew
pub record WordsGrown (table : List (List ℕ)) (finals states : ℕ) (l m : List ℕ) (set grown : ℕ) : Type 0 where
  pub sixteen : Sixteen m
  pub held : (p q : ℕ) → p < 16 → InRows l p q → InRows m p q
  pub sound : (a : Automaton) (more : ℕ → ℕ) → RuleHeld a table finals states → WordsIn a set more l → WordsIn a set more m
  pub closed : grown ≡ 0 → (p q : ℕ) → p < states → has (word_row table finals states (rows_of m) set p) q ≡ true → InRows m p q
  pub left : rows_left m + grown ≤ rows_left l

-- sixteen rows hold the states told apart by words over the set, followed by what the rows held before
pub record WordsClosed (table : List (List ℕ)) (finals states : ℕ) (l m : List ℕ) (set : ℕ) : Type 0 where
  pub sixteen : Sixteen m
  pub sound : (a : Automaton) → RuleHeld a table finals states → WordsIn a set (rows_of l) m
  pub whole
      : (a : Automaton) → RuleHeld a table finals states → ((s : ℕ) → has set s ≡ true → s < a.symbols)
      → (p q : ℕ) → p < states → q < states → WordApart a set (RowPairs (rows_of l)) p q → InRows m p q

-- the symbols of the word after a node; none where it is no exit
abbrev pub after_set : Node → ℕ
after_set n = cond n.exit n.after 0

-- pairs were joined into the class rows of node n: for each i all that `Here` has for the node, and no others than `New` has; grown is the
-- number of rows that grew
pub record NodeJoined {I : Type 0} (New Here : I → Node → ℕ → ℕ → Type 0) (l m : List ℕ) (n grown : ℕ) : Type 0 where
  pub kept : OnlyClassesOf n l m
  pub held : (k p q : ℕ) → k < 512 → p < 16 → HeldApart l k p q → HeldApart m k p q
  pub here : (i : I) (p q : ℕ) → p < 16 → Here i (node_in l n) p q → HeldApart m n p q
  pub new
      : (i : I) (k p q : ℕ) → k < 512 → p < 16 → HeldApart m k p q → HeldApart l k p q ⊎ ((k ≡ n) × New i (node_in l n) p q)
  pub none : grown ≡ 0 → m ≡ l
  pub left : apart_left m + grown ≤ apart_left l

-- a rule that the table, S and the final set are
pub record RuleOf (table : List (List ℕ)) (finals states : ℕ) : Type 0 where
  pub rule : Automaton
  pub is : RuleHeld rule table finals states

-- a word over the after set of a node tells two states apart, or sixteen rows do where it ends
abbrev pub AfterPair
    : (table : List (List ℕ)) (finals states : ℕ) → List ℕ → RuleOf table finals states → Node → ℕ → ℕ → Type 0
AfterPair table finals states rows i x p q = WordApart i.rule (after_set x) (RowPairs (rows_of rows)) p q

-- and the states and the symbols of the set are those of the rule
abbrev pub AfterPairWithin
    : (table : List (List ℕ)) (finals states : ℕ) → List ℕ → RuleOf table finals states → Node → ℕ → ℕ → Type 0
AfterPairWithin table finals states rows i x p q =
    ((s : ℕ) → has (after_set x) s ≡ true → s < i.rule.symbols)
    × ((p < states) × ((q < states) × AfterPair table finals states rows i x p q))

-- those pairs were joined into the class rows of node n
abbrev pub AfterJoined : List (List ℕ) → ℕ → ℕ → List ℕ → List ℕ → ℕ → List ℕ → ℕ → Type 0
AfterJoined table finals states l m n rows grown =
    NodeJoined (AfterPair table finals states rows) (AfterPairWithin table finals states rows) l m n grown

-- the class rows of all nodes hold the after words of the exits
pub record AfterWords (table : List (List ℕ)) (finals states nodes : ℕ) (l m : List ℕ) : Type 0 where
  pub kept : OnlyClasses l m
  pub exact : (j : Job) → JobHeld j l table finals states nodes → AfterHeld j m nodes

-- the class rows hold the states told apart past each node
abbrev pub ClassesHeld : Job → List ℕ → ℕ → Type 0
ClassesHeld j work nodes =
    (n p q : ℕ) → n < nodes → p < j.rule.states → q < j.rule.states → has (class_row_in work n p) q ≡ apart j n p q

-- the class rows were grown from the after words of the exits
pub record ClassesFound (table : List (List ℕ)) (finals states nodes : ℕ) (l m : List ℕ) : Type 0 where
  pub kept : OnlyClasses l m
  pub exact : (j : Job) → JobHeld j l table finals states nodes → AfterHeld j l nodes → ClassesHeld j m nodes

-- ---- what is found at a point

-- the states whose rows hold pairs
unfoldable pub held_states : List ℕ → ℕ → ℕ → ℕ
held_states work n states = set_of states (λ q. not (eqb (pair_row_in work n q) 0))

-- a state is told apart from every lower one
abbrev pub is_lowest : List ℕ → ℕ → ℕ → Bool
is_lowest work n q = all_below q (λ p. has (class_row_in work n p) q)

-- the states that are lowest in their class
unfoldable pub lowest_states : List ℕ → ℕ → ℕ → ℕ
lowest_states work n states = set_of states (is_lowest work n)

-- for every state of a set, the symbol leads to a state that is not final and not told apart from it
unfoldable pub is_nop : List (List ℕ) → ℕ → List ℕ → ℕ → ℕ → ℕ → Bool
is_nop table finals work n a before =
    all_below 16
    (λ q. not (has before q) || (not (has finals (cell table q a)) && not (has (class_row_in work n (cell table q a)) q)))
