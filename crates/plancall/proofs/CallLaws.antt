-- The ways out of planning as a call, in the shape of its code.
-- Assumes nothing.
use Rattle.std.specs.Prelude.{Result, Ok, Err}
use mathlib.Core.Path.{◌≡◌, sym, ap, ◌∙◌}
use mathlib.Core.Bool.{true≢false}
use mathlib.Core.List.{List}
use Prim.Native.Nat.{ℕ, ◌≤◌}
use lib.Dec.{ltb}
use lib.ListN.{length}
use borrow.Author.Tests.{ltb-false}
use Rattle.laws.proofs.Tests.{fails_of, or_right}
use Rattle.buffer.specs.Buffer.{work_size, cleared}
use Rattle.jobhead.specs.Numbers.{HeadNumbers}
use Rattle.buffer.specs.Views.{rule_rows_in}
use Rattle.tables.specs.Held.{Usable}
use Rattle.admission.specs.Admitted.{Admitted}
use Rattle.admission.proofs.AdmissionLaws.{admitted_reads}
use Rattle.admission.proofs.CallLaws.{Ends, ends_refused, ends_accepted}
use Rattle.passes.specs.declared.passes.Counts.{Counts}
use Rattle.planoutcome.specs.PlanCall.{plan_size, plan_answer, outcome_of, plan_after}
use Rattle.planheld.specs.Held.{PlannedHeld}

module _ (file work plan : List ℕ) where
  -- what the call answers, and leaves of the work buffer and of the plan buffer
  abbrev pub PlanEnds : Result Counts ℕ → List ℕ → List ℕ → Type 0
  PlanEnds = Ends outcome_of plan_after (plan_answer file (length work) (length plan)) work plan

  module _ (m : List ℕ) (r : HeadNumbers) (a : Admitted (plan_answer file (length work) (length plan)) work m r) where
    -- a refusal
    pub plan_refused : (r.refusal ≡ 0 → ⊥) → PlanEnds (Err r.refusal) m plan
    plan_refused h = ends_refused outcome_of plan_after plan a h

    module _ (h : r.refusal ≡ 0) where
      -- the plan buffer is long enough
      room : plan_size ≤ length plan
      room =
          let j = a.job h in
          let short = ltb (length plan) plan_size in
          let read = admitted_reads file _ j.job j.is in
          ltb-false (length plan) plan_size (fails_of short (λ t. true≢false (sym (or_right (ltb (length work) work_size) short t) ∙ read.0)))

      -- the job that was admitted may be planned
      pub plan_ready : (1 ≤ r.nodes) × ((512 ≤ length plan) × Usable m (rule_rows_in m) r.states r.nodes)
      plan_ready = let j = a.job h in (j.some_node, (room, j.usable))

      -- its plan
      pub plan_accepted
          : (k after : List ℕ) (counts : Counts) → PlannedHeld (rule_rows_in m) r.finals r.states r.nodes m k plan after counts
          → PlanEnds (Ok counts) (cleared k) after
      plan_accepted k after counts g =
          ends_accepted outcome_of plan_after plan a h k (Ok counts) after g.kept
          (λ j held. let due = g.exact j held in (ap Ok due.0, due.1))
