-- Laws of plans that are handed over and stored.
-- Assumes nothing.
use mathlib.Core.Path.{◌≡◌, refl, sym, ◌∙◌, subst}
use mathlib.Core.Logic.{⊎_elim}
use mathlib.Core.Bool.{true, false}
use mathlib.Core.List.{List}
use Prim.Native.Nat.{ℕ, ◌+◌, ◌<◌}
use native.Mathlib.Nat.{eq-or-lt_of_le}
use native.Mathlib.Omega.{arith}
use lib.Dec.{eqb, leb}
use lib.ListN.{get_or, set}
use lib.Seq.{get_or-set_same, get_or-set_other}
use Rattle.job.specs.Job.{Kind, is_event}
use Rattle.buffer.proofs.KeptLaws.{kept_none, kept_both, kept_set}
use Rattle.buffer.specs.Layout.{plan_part, rule_part, Lent}
use Rattle.checking.specs.Inner.{PlanStored}
use Rattle.checking.specs.Checking.{good_mark}

-- the byte of a shadow is at most 1
pub mark_shadow : (k : Kind) (b : ℕ) → is_event k ≡ true → leb b 1 ≡ good_mark k b
mark_shadow k b e = rw e refl

-- that of any other node is 0
pub mark_other : (k : Kind) (b : ℕ) → is_event k ≡ false → eqb b 0 ≡ good_mark k b
mark_other k b e = rw e refl

-- no byte is stored
pub plan_none : (plan l : List ℕ) → PlanStored plan l l 0
plan_none plan l = record { kept = kept_none l plan_part rule_part; here = λ n h. absurd (omega arith) }

-- one byte more is stored
pub plan_more
    : (plan l m : List ℕ) (n : ℕ) → n < 512 → Lent m → PlanStored plan l m n
    → PlanStored plan l (set m (plan_part + n) (get_or plan n 0)) (n + 1)
plan_more plan l m n h long p = record {
  kept = kept_both l m (set m (plan_part + n) (get_or plan n 0)) plan_part rule_part (plan_part + n) (plan_part + n + 1) p.kept
      (kept_set m (plan_part + n) (get_or plan n 0)) (omega arith) (omega arith);
  here = here;
}
  where
    here : (k : ℕ) → k < n + 1 → get_or (set m (plan_part + n) (get_or plan n 0)) (plan_part + k) 0 ≡ get_or plan k 0
    here k b =
        ⊎_elim
        (λ (e : k ≡ n).
        subst (λ (x : ℕ). get_or (set m (plan_part + n) (get_or plan n 0)) (plan_part + x) 0 ≡ get_or plan x 0) (sym e)
        (get_or-set_same m (plan_part + n) (get_or plan n 0) 0 (omega arith)))
        (λ (l : k < n). get_or-set_other m (plan_part + n) (plan_part + k) (get_or plan n 0) 0 (λ e. absurd (omega arith)) ∙ p.here k l)
        (eq-or-lt_of_le (omega arith))
