-- What the numbering of states answers.
-- Inner contracts: what functions ask of and leave to each other. No promise is stated in them; a reader need not believe them.
-- Assumes nothing.
use Rattle.std.specs.Prelude.{Option, Some, None, ℕ, ◌≤◌}

-- a fact of the count of states, which is at most 16; where there is none it is the fact of 17, of more than 16
abbrev pub Counted : (ℕ → Type 0) → Option ℕ → Type 0
Counted P (Some n) = P n × (n ≤ 16)
Counted P None = P 17
