-- Expressions and their words (document 02, request 6): "that language is defined on the grammar without the reader".
-- Assumes nothing.
use Rattle.std.specs.Prelude.{ℕ, List, [], ◌∷◌, ◌++◌}

-- an expression; a letter is told by its position in the text
pub data Expr : Type 0 where
  letter : ℕ → Expr
  following : Expr → Expr → Expr
  either : Expr → Expr → Expr
  star : Expr → Expr

-- the words of an expression, with a name for the letter of each position
pub data Word (name : ℕ → ℕ) : Expr → List ℕ → Type 0 where
  -- a letter is a word by itself
  one : {p : ℕ} → Word name (letter p) (name p ∷ [])
  -- following on: a word of the one, then a word of the other
  joined : {d e : Expr} {u v : List ℕ} → Word name d u → Word name e v → Word name (following d e) (u ++ v)
  -- the bar: a word of the one or of the other
  left : {d e : Expr} {u : List ℕ} → Word name d u → Word name (either d e) u
  right : {d e : Expr} {u : List ℕ} → Word name e u → Word name (either d e) u
  -- the star: the empty word, or a word and then a word of the star
  none : {e : Expr} → Word name (star e) []
  more : {e : Expr} {u v : List ℕ} → Word name e u → Word name (star e) v → Word name (star e) (u ++ v)
