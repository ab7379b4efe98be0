-- The number that a call returns (document 01, "The job file": "these calls return one 64-bit number; a refusal is its number").
-- Assumes nothing.
use Rattle.std.specs.Prelude.{ℕ, ◌^◌}

-- from this number on a call's number says that it was accepted; every number below is a refusal
abbrev pub accepted_from : ℕ
accepted_from = 2 ^ 48
