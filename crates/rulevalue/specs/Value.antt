-- What a call for a rule by value answers, with the number of a refusal in place of its reason.
-- Assumes nothing.
use Rattle.std.specs.Prelude.{Result, ℕ}
use Rattle.refusal.specs.declared.Refusal.{Refusal}
use Rattle.refusal.specs.Refusal.{said}
use Rattle.rulevalue.specs.declared.WithTable.{WithTable}

-- the answer as it is said, and the table
abbrev pub said_beside : {T : Type 0} → WithTable (Result T Refusal) → WithTable (Result T ℕ)
said_beside w = record { answer = said w.answer; table = w.table }
