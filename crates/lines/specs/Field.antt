-- What the parts of the field reader find, and what the writer of fields takes and puts.
-- Inner contracts: what functions ask of and leave to each other. No promise is stated in them; a reader need not believe them.
-- Assumes nothing.
use Rattle.std.specs.Prelude.{◌≡◌, cond, List, [], ◌∷◌, ℕ, ◌+◌, ◌%◌, ◌≤◌, ◌<◌, eqb, get_or}
use Rattle.std.proofs.Math.Seq.{slice}
use Rattle.lines.specs.Line.{field_of}

-- of the six columns from at on, the field reads from column r as from the first; there stands no space, unless r is 6
pub record PastSpaces (l : List ℕ) (at r : ℕ) : Type 0 where
  pub within : r ≤ 6
  pub same : field_of (slice (at + 0) (at + 6) l) ≡ field_of (slice (at + r) (at + 6) l)
  pub no_space : r < 6 → get_or l (at + r) 0 ≡ 32 → ⊥

-- the last digit of n, or a space where n has none left
abbrev pub column_of : ℕ → ℕ
column_of n = cond (eqb n 0) 32 (48 + n % 10)

-- each of some numbers has at most six digits
abbrev pub EachFits : List ℕ → Type 0
EachFits [] = Unit
EachFits (n ∷ ns) = (n < 1000000) × EachFits ns
