-- `dapohiru::edges::dapohiru_drop_edge` meets its contract: the number of the answer, whose count is small, and the lists as the call on values left
-- them.
-- Assumes nothing.
use Rattle.refusal.specs.Refusal.{said}
use mathlib.Core.Path.{sym, ap, subst, ◌∙◌}
use Rattle.reasons.proofs.ReasonsLaws.{said_by_reason}
use Rattle.arrivals.specs.Arrivals.{lists, Edited, edge_number}
use Rattle.arrivals.specs.ArrivalsSay.{Told}
use Rattle.arrivals.proofs.ToldLaws.{answers_say}
use Rattle.edgenumbers.specs.Fits.{EdgesFit}
use Rattle.dapohiru.proofs.FitsLaws.{edges_fit}
use Rattle.dapohiru.proofs.edges.dapohiru_drop_edge.Goals as goal

pub of_edges-requires : goal.of_edges-requires
of_edges-requires c =
    let x = c.args in
    let r = c.drop_edge in
    subst EdgesFit (sym (said_by_reason r.result)) (edges_fit (said r.result) (subst Told (sym (ap (λ (e : Edited). e.answer) r.ensures)) (answers_say.drop x.nodes x.count x.from x.to (lists x.edges.now x.predecessors.now x.starts.now))))

pub returns : goal.returns
returns c =
    let r = c.drop_edge in
    (c.of_edges.ensures ∙ ap edge_number (said_by_reason r.result) ∙ ap (λ (e : Edited). edge_number e.answer) r.ensures, ap (λ (e : Edited). e.left) r.ensures)
