-- `sets::contains` meets its contract: the mask 1 of the shifted set is the bit.
-- Assumes nothing.
use Prim.Native.Nat.{ℕ, ◌/◌, ◌^◌}
use mathlib.Core.Path.{ap}
use lib.Dec.{eqb}
use lib.Bits.{and_mask}
use Rattle.laws.specs.Bits.{has}
use Rattle.sets.proofs.contains.Goals as goal

pub returns : goal.returns
unfolding has
returns c = ap (λ (n : ℕ). eqb n 1) (and_mask (c.args.s / 2 ^ c.args.q) 1)
