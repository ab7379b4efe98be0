-- Laws of answers by number: turned back with a reason it is what `said` makes of it, turned back with a number it is the answer itself.
-- Assumes nothing.
use Rattle.std.specs.Prelude.{Result, Ok, Err, ℕ}
use mathlib.Core.Path.{◌≡◌, refl}
use Rattle.refusal.specs.declared.Refusal.{Refusal}
use Rattle.refusal.specs.Refusal.{number_of, said}
use Rattle.reasons.specs.Reasons.{said_by}

-- with a reason
pub said_by_reason : {T : Type 0} (r : Result T Refusal) → said_by number_of r ≡ said r
said_by_reason (Ok v) = refl
said_by_reason (Err e) = refl

-- with any number
pub said_by_number : {T : Type 0} (r : Result T ℕ) → said_by (λ n. n) r ≡ r
said_by_number (Ok v) = refl
said_by_number (Err n) = refl
