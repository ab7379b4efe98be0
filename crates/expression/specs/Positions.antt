-- The language of a text's expression, and the letter positions that an event can stand for (document 02, request 6).
-- Assumes nothing.
use Rattle.std.specs.Prelude.{◌≡◌, ◌↔◌, ℕ, ◌-◌, ◌<◌, List, [], ◌∷◌, ◌++◌, map, get_or}
use Rattle.expression.specs.Expression.{Expr, Word}

-- the symbol of the letter at a position: a is 0
abbrev pub symbol_at : List ℕ → ℕ → ℕ
symbol_at t p = get_or t p 0 - 97

-- "the events so far form a word of the expression's language"
abbrev pub Accepts : List ℕ → Expr → List ℕ → Type 0
Accepts t e w = Word (symbol_at t) e w

-- a position as the name of its letter: the words are then lists of positions
abbrev pub position : ℕ → ℕ
position p = p

-- p is a letter position that the last event of w can stand for in a word of the language beginning with w
pub record StandsFor (t : List ℕ) (e : Expr) (w : List ℕ) (p : ℕ) : Type 0 where
  pub before : List ℕ
  pub after : List ℕ
  pub word : Word position e (before ++ (p ∷ after))
  pub events : map (symbol_at t) (before ++ (p ∷ [])) ≡ w

-- every event is one of the first a symbols
pub data Events (a : ℕ) : List ℕ → Type 0 where
  no_event : Events a []
  event : {s : ℕ} {w : List ℕ} → s < a → Events a w → Events a (s ∷ w)

-- two lists of events are of one state: both are the start, or neither is and their last events can stand for the same positions
pub record SameState (t : List ℕ) (e : Expr) (v w : List ℕ) : Type 0 where
  pub start : (v ≡ []) ↔ (w ≡ [])
  pub positions : (p : ℕ) → StandsFor t e v p ↔ StandsFor t e w p
