-- What moving sixteen rows by the symbols of a set leaves, and what they hold when all words are spelt.
-- Inner contracts: what functions ask of and leave to each other. No promise is stated in them; a reader need not believe them.
-- Assumes nothing.
use Rattle.std.specs.Prelude.{◌≡◌, ◌⊎◌, true, false, List, ℕ, ◌≤◌, ◌<◌}
use Rattle.laws.specs.Bits.{has}
use Rattle.automaton.specs.Automaton.{Automaton, next, cell}
use Rattle.job.specs.Words.{Spelt}
use Rattle.tables.specs.Sixteen.{InRows, Sixteen, rows_left}

-- the table has the next states of the rule
abbrev pub CellsAre : Automaton → List (List ℕ) → Type 0
CellsAre rule table = (q a : ℕ) → q < 16 → a < 16 → cell table q a ≡ next rule q a

-- the pairs of sixteen rows
abbrev pub PairsOf : List ℕ → ℕ → ℕ → Type 0
PairsOf rows p q = (p < 16) × InRows rows p q

-- every pair of the rows is one that a word over the set leads to from a pair of the first rows
abbrev pub AllSpelt : Automaton → ℕ → List ℕ → List ℕ → Type 0
AllSpelt rule set first rows = (p q : ℕ) → p < 16 → InRows rows p q → Spelt rule set (PairsOf first) p q

-- rows have grown: none but those of the set, and less is left where it is not empty
pub record Growing (l m : List ℕ) (grown : ℕ) : Type 0 where
  pub sixteen : Sixteen m
  pub held : (p q : ℕ) → p < 16 → InRows l p q → InRows m p q
  pub quiet : (p q : ℕ) → p < 16 → has grown p ≡ false → InRows m p q → InRows l p q
  pub left : rows_left m ≤ rows_left l
  pub less : (grown ≡ 0 → ⊥) → rows_left m < rows_left l

-- a set was joined into row p
pub record RowGrown (l m : List ℕ) (p s grown : ℕ) : Type 0 where
  pub growing : Growing l m grown
  pub here : (q : ℕ) → has s q ≡ true → InRows m p q
  pub new : (r q : ℕ) → r < 16 → InRows m r q → InRows l r q ⊎ ((r ≡ p) × (has s q ≡ true))

-- row p was moved by each symbol of the set
pub record RowSpelt (table : List (List ℕ)) (l m : List ℕ) (set p grown : ℕ) : Type 0 where
  pub growing : Growing l m grown
  pub here : (a q : ℕ) → has set a ≡ true → InRows l p q → InRows m (cell table p a) (cell table q a)
  pub sound
      : (rule : Automaton) (first : List ℕ) → CellsAre rule table → AllSpelt rule set first l → AllSpelt rule set first m

-- the rows hold what words over the set lead to from those that were there, and nothing else
pub record Closed (table : List (List ℕ)) (l m : List ℕ) (set : ℕ) : Type 0 where
  pub sixteen : Sixteen m
  pub sound : (rule : Automaton) → CellsAre rule table → AllSpelt rule set l m
  pub whole : (rule : Automaton) → CellsAre rule table → (p q : ℕ) → Spelt rule set (PairsOf l) p q → PairsOf m p q
