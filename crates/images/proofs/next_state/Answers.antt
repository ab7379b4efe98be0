-- `images::next_state` meets its contract: the cell of the table, which is below 16.
-- Assumes nothing.
use mathlib.Core.Path.{refl}
use native.Mathlib.Omega.{arith}
use Rattle.automaton.specs.Automaton.{cell}
use Rattle.images.proofs.next_state.Goals as goal

pub overflow_cast-result : goal.overflow_cast-result
unfolding cell
overflow_cast-result c =
    let pre = c.requires in
    let small = pre.1.1 c.args.q c.args.a pre.0 pre.1.0 in
    record { fits = omega arith }

pub returns : goal.returns
unfolding cell
returns c =
    let pre = c.requires in
    (refl, pre.1.1 c.args.q c.args.a pre.0 pre.1.0)
