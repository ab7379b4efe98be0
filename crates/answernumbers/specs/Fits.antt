-- What the answers of planning and listing are that their number, made of fields of 16 bits above 2^48, holds; every answer is one.
-- Inner contracts: what functions ask of and leave to each other. No promise is stated in them; a reader need not believe them.
-- Assumes nothing.
use Rattle.std.specs.Prelude.{ℕ, Result, Ok, Err, ◌^◌, ◌<◌}
use Rattle.passes.specs.declared.passes.Counts.{Counts}

-- counts of 16 bits
abbrev pub OutcomeFits : Result Counts ℕ → Type 0
OutcomeFits (Ok c) = (c.shadows < 2 ^ 16) × (c.enabled < 2 ^ 16) × (c.passes < 2 ^ 16)
OutcomeFits (Err k) = Unit {0}

-- a length of 16 bits
abbrev pub ListedFits : Result ℕ ℕ → Type 0
ListedFits (Ok n) = n < 2 ^ 16
ListedFits (Err k) = Unit {0}
