-- Where a part of a text cannot go on.
-- Inner contracts: what functions ask of and leave to each other. No promise is stated in them; a reader need not believe them.
-- Assumes nothing.
use Rattle.std.specs.Prelude.{List, ℕ}
use Rattle.expression.specs.Grammar.{Level, piece, row, choice, At, IsLetter}

-- a piece begins at a position
pub data Begins (a : ℕ) (t : List ℕ) (i : ℕ) : Type 0 where
  by_letter : IsLetter a t i → Begins a t i
  by_group : At t i 40 → Begins a t i

-- no longer row goes on from a position
pub record StopRow (a : ℕ) (t : List ℕ) (j : ℕ) : Type 0 where
  pub no_star : At t j 42 → ⊥
  pub no_piece : Begins a t j → ⊥

-- no longer choice goes on from a position
pub record Stop (a : ℕ) (t : List ℕ) (j : ℕ) : Type 0 where
  pub row_ends : StopRow a t j
  pub no_bar : At t j 124 → ⊥

-- nothing longer of a level goes on from a position
abbrev pub StopAt : ℕ → List ℕ → Level → ℕ → Type 0
StopAt a t piece j = At t j 42 → ⊥
StopAt a t row j = StopRow a t j
StopAt a t choice j = Stop a t j
