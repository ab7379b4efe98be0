-- A search that answers faithful finds the states that arrive at each event node; with all points watched it does answer so.
-- Assumes nothing.
use mathlib.Core.Path.{◌≡◌, refl, sym, ap, subst, ◌∙◌}
use mathlib.Core.Logic.{⊎_elim}
use mathlib.Core.Bool.{Bool, true, false, not}
use native.Mathlib.Omega.{arith}
use lib.Dec.{eqb}
use borrow.Author.Tests.{eqb-true, eqb-false}
use Rattle.laws.proofs.Tests.{passes_or_fails, fails_of}
use Rattle.job.specs.Plan.{enables, state_after}
use Rattle.planning.specs.Planning.{all_enabled}
use Rattle.job.specs.Search.{arrives}
use Rattle.job.proofs.Decide.{faithful_says, arrives_says}
use Rattle.planning.proofs.PlanningResult.{all_enabled_faithful}
use Rattle.buffer.specs.Views.{pair_row_in}
use Rattle.tables.proofs.RowLaws.{any_member, has_nothing}
use Rattle.search.specs.Searched.{Searched, SearchFinds, AllEnabledFinds}

-- the rows that hold pairs are those of the states that arrive
pub search_finds : SearchFinds
search_finds j plan l m wf s n q e small =
    ⊎_elim
    (λ (z : eqb (pair_row_in m n q) 0 ≡ true).
    z ∙ sym (ap not (fails_of (arrives j n q) (λ h.
    let a = (arrives_says wf n q).0 h in
    let r = state_after j.rule (enables plan) a.start.state a.events in
    has_nothing r (eqb-true _ _ z)
    (s.held refl n q r e (record { start = a.start; events = a.events; walk = a.walk; one = a.one; other = refl }))))))
    (λ (z : eqb (pair_row_in m n q) 0 ≡ false).
    let r = any_member (pair_row_in m n q) (eqb-false _ _ z) in
    let a = s.arrive n q r.0 e (omega (arith, wf.rule.few_states)) r.1 in
    z ∙ sym (ap not ((arrives_says wf n q).1
    (record { start = a.start; events = a.events; walk = a.walk; one = a.one; other = a.one }))))
    (passes_or_fails (eqb (pair_row_in m n q) 0))

-- the answer is faithful, and so the rows are those of the states that arrive
pub all_enabled_finds : AllEnabledFinds
all_enabled_finds j l m answer wf s =
    let t : answer ≡ true = s.exact ∙ (faithful_says wf (all_enabled j)).1 (all_enabled_faithful j) in
    (t, search_finds j (all_enabled j) l m wf (subst (λ (b : Bool). Searched j (all_enabled j) l m b) t s))
