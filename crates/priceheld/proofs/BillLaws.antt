-- Laws of the answer for the job that the work buffer holds, in the shape of the code.
-- Assumes nothing.
use Rattle.std.specs.Prelude.{Result, Ok, Err}
use mathlib.Core.Path.{◌≡◌, refl, sym, ap, ◌∙◌}
use mathlib.Core.Bool.{Bool, true, false}
use mathlib.Core.List.{List}
use Prim.Native.Nat.{ℕ}
use native.Mathlib.Omega.{arith}
use lib.Dec.{eqb}
use lib.ListN.{length, get_or}
use borrow.Author.Tests.{eqb-true}
use Rattle.laws.specs.Bounded.{all_below, sum_below}
use Rattle.laws.proofs.Bounded.{all_at, sum_cong}
use Rattle.job.specs.Job.{Kind, is_event, point_of, Node, Job, node_at}
use Rattle.job.specs.Plan.{enables}
use Rattle.refusal.specs.declared.Refusal.{Refusal}
use Rattle.refusal.specs.declared.Refusal.TheVariants.{WrongVolumes}
use Rattle.refusal.specs.Refusal.{number_of, status_in, value_in}
use Rattle.buffer.specs.Views.{node_in}
use Rattle.checking.specs.Checking.{good_mark}
use Rattle.checking.proofs.CheckLaws.{marks, marks_same}
use Rattle.checking.proofs.PlanLaws.{mark_other}
use Rattle.pricing.specs.Numbered.{Column, column, not_these_lines, column_in}
use Rattle.pricing.specs.Pricing.{volume_line, cost, day_cost, cents_of, billed, priced_job}
use Rattle.pricing.proofs.PricingLaws.{priced_11, priced_12, priced_billed}
use Rattle.pricing.specs.Inner.{Fit, cost_in, sum_in, BillFit, NodesHeld, Billed}

-- a watched node that passes its test is a point
watched_point : (k : Kind) (b : ℕ) → good_mark k b ≡ true → eqb b 1 ≡ true → is_event k ≡ true
watched_point k b g w = go (is_event k) refl
  where
    go : (e : Bool) → is_event k ≡ e → is_event k ≡ true
    go true is = is
    go false is = absurd (omega (arith, eqb-true b 0 (mark_other k b is ∙ g), eqb-true b 1 w))

module _ (prices work plan volumes : List ℕ) (nodes : ℕ) where
  -- the plan has another length
  pub bill_length : (length plan ≡ nodes → ⊥) → Billed prices work nodes plan volumes (Err 11)
  bill_length h j held = sym (priced_11 prices j plan volumes (λ e. h (e ∙ sym held.count)))

  module _ (long : length plan ≡ nodes) where
    -- the tests of the plan's bytes
    marks_are : (j : Job) → NodesHeld j work nodes → (t : Bool) → all_below nodes (marks plan (node_in work)) ≡ t → all_below (length j.nodes) (marks plan (node_at j)) ≡ t
    marks_are j held t g = sym (marks_same plan (node_in work) (node_at j) nodes (length j.nodes) held.count held.node) ∙ g

    -- a byte that its node may not have
    pub bill_marks : all_below nodes (marks plan (node_in work)) ≡ false → Billed prices work nodes plan volumes (Err 12)
    bill_marks g j held = sym (priced_12 prices j plan volumes (long ∙ held.count) (marks_are j held false g))

    module _ (good : all_below nodes (marks plan (node_in work)) ≡ true) where
      -- what the sum needs
      pub bill_fit : BillFit work prices nodes → Fit work plan prices nodes
      bill_fit fit =
          record {
            long = fit.long;
            few = fit.few;
            bytes = omega arith;
            prices_fit = fit.prices_fit;
            node = λ n l. record {
              symbol = λ s e. fit.symbol n s l e;
              mark = watched_point (node_in work n).kind (get_or plan n 0) (all_at nodes (marks plan (node_in work)) good n l);
            };
          }

      -- the sum over the buffer's nodes is that over the job's
      same_sum
          : (j : Job) (vs : List ℕ) → NodesHeld j work nodes → sum_below nodes (λ n. cost_in prices work plan n (get_or vs n 0)) ≡ day_cost prices j plan vs
      same_sum j vs held =
          sum_cong nodes (λ n. cost_in prices work plan n (get_or vs n 0))
          (λ n. cost prices (point_of (node_at j n).kind) (enables plan n) (get_or vs n 0))
          (λ n l. ap (λ (x : Node). cost prices (point_of x.kind) (enables plan n) (get_or vs n 0)) (held.node n l))
          ∙ ap (λ (m : ℕ). sum_below m (λ n. cost prices (point_of (node_at j n).kind) (enables plan n) (get_or vs n 0))) held.count

      -- past both tests, what the volume file says
      answer : (j : Job) → NodesHeld j work nodes → (v : Column) → column_in volume_line nodes volumes ≡ v → billed prices j plan v ≡ priced_job prices j plan volumes
      answer j held v e =
          sym (priced_billed prices j plan volumes v (long ∙ held.count) (marks_are j held true good)
          (ap (λ (m : ℕ). column_in volume_line m volumes) (sym held.count) ∙ e))

      -- the file is not these lines
      pub bill_lines
          : (k : Refusal) → Err k ≡ sum_in prices work plan nodes (column_in volume_line nodes volumes)
          → Billed prices work nodes plan volumes (Err (number_of k))
      bill_lines k sum j held = go (column_in volume_line nodes volumes) refl
        where
          go : (v : Column) → column_in volume_line nodes volumes ≡ v → Err (number_of k) ≡ priced_job prices j plan volumes
          go (column vs) e =
              let z : ◌≡◌ {A = Result ℕ Refusal} (Err k) (Ok (sum_below nodes (λ n. cost_in prices work plan n (get_or vs n 0)))) =
              sum ∙ ap (sum_in prices work plan nodes) e in
              cc
          go not_these_lines e =
              ap (λ (x : Result ℕ Refusal). Err (status_in x)) (sum ∙ ap (sum_in prices work plan nodes) e)
              ∙ answer j held not_these_lines e

      -- the price
      pub bill_price
          : (t c : ℕ) → Ok t ≡ sum_in prices work plan nodes (column_in volume_line nodes volumes) → c ≡ cents_of t
          → Billed prices work nodes plan volumes (Ok c)
      bill_price t c sum price j held = go (column_in volume_line nodes volumes) refl
        where
          go : (v : Column) → column_in volume_line nodes volumes ≡ v → Ok c ≡ priced_job prices j plan volumes
          go (column vs) e =
              let is : t ≡ sum_below nodes (λ n. cost_in prices work plan n (get_or vs n 0)) = ap value_in (sum ∙ ap (sum_in prices work plan nodes) e) in
              ap Ok (price ∙ ap cents_of (is ∙ same_sum j vs held)) ∙ answer j held (column vs) e
          go not_these_lines e =
              let z : ◌≡◌ {A = Result ℕ Refusal} (Ok t) (Err WrongVolumes) = sum ∙ ap (sum_in prices work plan nodes) e in
              cc
