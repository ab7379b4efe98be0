-- `sets::insert` meets its contract: 1 shifted by q is 2 ^ q.
-- Assumes nothing.
use Prim.Native.Nat.{ℕ}
use mathlib.Core.Path.{ap}
use lib.Bits.{bit_or}
use Rattle.laws.proofs.Bits.{one_shl}
use borrow.Author.Rules.{rules}
use Rattle.sets.proofs.insert.Goals as goal

pub returns : goal.returns
returns c = ap (λ (n : ℕ). bit_or c.args.s n) (one_shl 16 c.args.q (search rules))
