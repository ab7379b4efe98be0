-- `automaton::rule::next` meets its contract: the cell of the state and the symbol.
-- Assumes nothing.
use Rattle.automaton.specs.Automaton.{cell}
use Rattle.automaton.proofs.rule.next.Goals as goal

pub returns : goal.returns
unfolding cell
returns c = c.from.ensures
