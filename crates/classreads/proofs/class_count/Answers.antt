-- `classreads::class_count` meets its contract: the bits of the set of the lowest states count them.
-- Assumes nothing.
use mathlib.Core.Path.{ap, ◌∙◌}
use Prim.Native.Nat.{ℕ}
use Rattle.laws.specs.Bounded.{sum_below}
use Rattle.laws.specs.Bits.{bit}
use Rattle.classes.specs.Backwards.{is_lowest, lowest_states}
use Rattle.tables.proofs.SetLaws.{sum_set_of}
use Rattle.classreads.proofs.class_count.Goals as goal

pub returns : goal.returns
unfolding lowest_states
returns c =
    c.count.ensures ∙ ap (λ (s : ℕ). sum_below 16 (bit s)) c.lowest_states.ensures
    ∙ sum_set_of 16 c.args.states (is_lowest c.args.work.now c.args.n) c.requires.1.1
