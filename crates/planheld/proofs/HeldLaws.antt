-- Laws of the plan of the job that the work buffer holds.
-- Assumes nothing.
use mathlib.Core.Path.{◌≡◌, ap, ◌∙◌, subst}
use mathlib.Core.List.{List}
use Prim.Native.Nat.{ℕ}
use native.Mathlib.Omega.{arith}
use lib.Seq.{sets}
use Rattle.buffer.specs.Buffer.{work_size}
use Rattle.buffer.specs.Layout.{nodes_part, pair_part, class_part, found_part}
use Rattle.buffer.specs.Kept.{SameOutside}
use Rattle.buffer.proofs.KeptLaws.{kept_none, kept_both}
use Rattle.buffer.specs.ClassRows.{OnlyClasses}
use Rattle.buffer.specs.Views.{plan_in}
use Rattle.tables.specs.Held.{Usable}
use Rattle.tables.proofs.JobKeptLaws.{front_kept, front_job}
use Rattle.classes.specs.Backwards.{AfterWords}
use Rattle.tables.proofs.JobKeptLaws.{table_usable}
use Rattle.passes.specs.declared.passes.Counts.{Counts}
use Rattle.passes.specs.Passes.{PlanningKept, PlanMade}
use Rattle.passes.proofs.PlanInLaws.{planning_outside}
use Rattle.planheld.specs.Held.{PlannedHeld}

-- planning leaves the bytes past the first 65,536
rest_kept : (l m k : List ℕ) → OnlyClasses l m → PlanningKept m k → SameOutside l k nodes_part work_size
rest_kept l m k a p =
    kept_both l m k nodes_part work_size pair_part work_size
    (kept_both l l m nodes_part work_size class_part found_part (kept_none l nodes_part work_size) a (omega arith) (omega arith))
    (planning_outside p) (omega arith) (omega arith)

-- after words, planning and the copy of the plan
pub planned_held
    : {rule table : List (List ℕ)} {finals states nodes : ℕ} {l m k before after : List ℕ} {counts : Counts} → table ≡ rule
    → Usable l rule states nodes → AfterWords table finals states nodes l m → PlanMade table finals states nodes m k counts
    → after ≡ sets before 0 (plan_in k nodes) → PlannedHeld rule finals states nodes l k before after counts
planned_held {rule} {table} {finals} {states} {nodes} {l} {m} {k} {before} {after} {counts} same usable a p copied =
    subst (λ (t : List (List ℕ)). PlannedHeld t finals states nodes l k before after counts) same (record {
      kept = rest_kept l m k a.kept p.kept;
      exact = λ j held.
          let h = front_job (front_kept (omega arith) a.kept) (table_usable same usable) held in
          let w = a.exact j held in (p.counts j h w, copied ∙ ap (sets before 0) (p.plan j h w));
    })
