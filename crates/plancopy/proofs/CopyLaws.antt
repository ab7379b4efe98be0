-- Laws of the plan copied to the plan buffer.
-- Assumes nothing.
use mathlib.Core.Path.{◌≡◌, sym, ap, ◌∙◌}
use mathlib.Core.List.{List, [], ◌∷◌}
use Prim.Native.Nat.{ℕ, ◌+◌, ◌<◌}
use native.Mathlib.Omega.{arith}
use lib.ListN.{length, get_or, set}
use lib.Seq.{sets}
use Rattle.laws.proofs.Sets.{sets_append}
use Rattle.buffer.specs.Layout.{plan_part, Lent}
use Rattle.buffer.specs.Views.{plan_in}
use Rattle.passes.proofs.PlanInLaws.{plan_in_none, plan_in_more, plan_in_length}

-- no byte
pub copied_none : (work before : List ℕ) → before ≡ sets before 0 (plan_in work 0)
copied_none work before = ap (sets before 0) (sym (plan_in_none work))

-- one byte more
pub Copied-more
    : (work before after : List ℕ) (n : ℕ) → Lent work → n < 512 → after ≡ sets before 0 (plan_in work n)
    → set after n (get_or work (plan_part + n) 0) ≡ sets before 0 (plan_in work (n + 1))
Copied-more work before after n long few e =
    let byte = get_or work (plan_part + n) 0 in
    let here : 0 + length (plan_in work n) ≡ n = omega (arith, plan_in_length work n long (omega arith)) in
    ap (λ (p : List ℕ). set p n byte) e
    ∙ ap (λ (k : ℕ). set (sets before 0 (plan_in work n)) k byte) (sym here)
    ∙ sym (ap (sets before 0) (plan_in_more work n long few) ∙ sets_append before 0 (plan_in work n) (byte ∷ []))
