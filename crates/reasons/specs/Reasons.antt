-- An answer by the number of what it is turned back with, whatever that is.
-- Inner contracts: what functions ask of and leave to each other. No promise is stated in them; a reader need not believe them.
-- Assumes nothing.
use Rattle.std.specs.Prelude.{Result, Ok, Err, ℕ}

-- a value, or the number of what stands in its place
abbrev pub said_by : {T E : Type 0} → (E → ℕ) → Result T E → Result T ℕ
said_by number (Ok v) = Ok v
said_by number (Err e) = Err (number e)
