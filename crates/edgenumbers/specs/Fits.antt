-- What the answers of the calls on edges are that their number holds; every answer is one.
-- Inner contracts: what functions ask of and leave to each other. No promise is stated in them; a reader need not believe them.
-- Assumes nothing.
use Rattle.std.specs.Prelude.{ℕ, Result, Ok, Err, ◌≤◌}

-- at most 2,048 edges
abbrev pub EdgesFit : Result ℕ ℕ → Type 0
EdgesFit (Ok k) = k ≤ 2048
EdgesFit (Err k) = Unit {0}
