-- The grammar of expressions (document 02, request 6): which part of a text spells which expression. A part goes from the position of its first
-- character to before another. The characters `(`, `)`, `*`, `a` and `|` are 40, 41, 42, 97 and 124.
-- Assumes nothing.
use Rattle.std.specs.Prelude.{◌≡◌, ℕ, suc, ◌+◌, ◌≤◌, ◌<◌, List, length, get_or}
use Rattle.expression.specs.Expression.{Expr, letter, following, either, star}

-- "a star binds first, then following on, then the bar": a piece has its stars, a row is pieces one after another, a choice is rows with bars
pub data Level : Type 0 where
  piece : Level
  row : Level
  choice : Level

-- the character at a position; 0 past the end, which none of them is
abbrev pub At : List ℕ → ℕ → ℕ → Type 0
At t i c = get_or t i 0 ≡ c

-- one of the first a letters stands at a position
pub record IsLetter (a : ℕ) (t : List ℕ) (i : ℕ) : Type 0 where
  pub low : 97 ≤ get_or t i 0
  pub high : get_or t i 0 < 97 + a

-- the text t, with the first a letters, spells an expression from a position to before another, at a level
pub data Spells (a : ℕ) (t : List ℕ) : Level → ℕ → ℕ → Expr → Type 0 where
  letter_at : {i : ℕ} → IsLetter a t i → Spells a t piece i (suc i) (letter i)
  -- "parentheses group"
  group : {i j : ℕ} {e : Expr} → At t i 40 → Spells a t choice (suc i) j e → At t j 41 → Spells a t piece i (suc j) e
  -- "stars may follow one another"
  again : {i j : ℕ} {e : Expr} → Spells a t piece i j e → At t j 42 → Spells a t piece i (suc j) (star e)
  single : {i j : ℕ} {e : Expr} → Spells a t piece i j e → Spells a t row i j e
  then : {i j k : ℕ} {d e : Expr} → Spells a t piece i j d → Spells a t row j k e → Spells a t row i k (following d e)
  only : {i j : ℕ} {e : Expr} → Spells a t row i j e → Spells a t choice i j e
  or
      : {i j k : ℕ} {d e : Expr} → Spells a t row i j d → At t j 124 → Spells a t choice (suc j) k e
      → Spells a t choice i k (either d e)

-- the whole text spells the expression e with the first a letters
abbrev pub TextOf : ℕ → List ℕ → Expr → Type 0
TextOf a t e = Spells a t choice 0 (length t) e

-- "symbols are the letters a to p"
abbrev pub Text : List ℕ → Expr → Type 0
Text t e = TextOf 16 t e

-- the statement: a text spells one expression at most; with fewer letters it spells the same, where it has no other letter
pub record GrammarSays : Type 0 where
  pub once : (t : List ℕ) (d e : Expr) → Text t d → Text t e → d ≡ e
  pub fewer : (a : ℕ) (t : List ℕ) (e : Expr) → a ≤ 16 → TextOf a t e → Text t e
  pub letters : (a : ℕ) (t : List ℕ) (e : Expr) (i : ℕ) → a ≤ 16 → TextOf a t e → IsLetter 16 t i → IsLetter a t i
  pub all_letters
      : (a : ℕ) (t : List ℕ) (e : Expr) → a ≤ 16 → Text t e → ((i : ℕ) → IsLetter 16 t i → IsLetter a t i) → TextOf a t e
