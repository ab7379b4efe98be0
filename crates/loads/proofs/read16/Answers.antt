-- `loads::read16` meets its contract: the bytes are those of `number_at`, one after the other.
-- Assumes nothing.
use native.Mathlib.Numerals.{towards_numerals}
use native.Mathlib.Omega.{arith}
use Rattle.laws.specs.Bytes.{number_at}
use Rattle.loads.proofs.read16.Goals as goal

pub returns : goal.returns
unfolding number_at
returns c = simp towards_numerals (omega arith)
