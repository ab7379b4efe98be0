-- `automaton::rule::is_final` meets its contract: the lowest bit of the set shifted by the state is the state's bit.
-- Assumes nothing.
use Prim.Native.Nat.{ℕ, ◌/◌, ◌^◌}
use mathlib.Core.Path.{ap}
use lib.Dec.{eqb}
use lib.Bits.{and_mask}
use Rattle.laws.specs.Bits.{has}
use Rattle.automaton.proofs.rule.is_final.Goals as goal

pub returns : goal.returns
unfolding has
returns c = ap (λ (n : ℕ). eqb n 1) (and_mask (c.args.finals / 2 ^ c.args.state) 1)
