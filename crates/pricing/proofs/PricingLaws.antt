-- Laws of pricing, in the order of its tests: each refusal, and the price.
-- Assumes nothing.
use Rattle.std.specs.Prelude.{Err}
use mathlib.Core.Path.{◌≡◌, ap}
use mathlib.Core.Bool.{Bool, true, false}
use mathlib.Core.List.{List}
use Prim.Native.Nat.{ℕ, ◌*◌, ◌≤◌}
use native.Mathlib.Nat.{mul-le-mul}
use native.Mathlib.Omega.{arith}
use lib.ListN.{length, get_or}
use borrow.Author.Tests.{eq-eqb, ne_eqb}
use Rattle.job.specs.Job.{Point, no_point, point, Job}
use Rattle.jobfile.specs.File.{Answer, accepted, turned, read_job}
use Rattle.checking.specs.Checking.{good_marks}
use Rattle.pricing.specs.Numbered.{Column, column_in}
use Rattle.pricing.specs.Pricing.{volume_line, cost, cents_of, billed, priced_job, answered_at, priced_at}
use Rattle.pricing.specs.PricingSays.{Covers}

-- ---- the answer for a job

module _ (prices : List ℕ) (j : Job) (plan volumes : List ℕ) where
  -- refusal 11
  pub priced_11 : (length plan ≡ length j.nodes → ⊥) → priced_job prices j plan volumes ≡ Err 11
  unfolding priced_job
  priced_11 h = simp (ne_eqb (length plan) (length j.nodes) h)

  -- refusal 12
  pub priced_12 : length plan ≡ length j.nodes → good_marks j plan ≡ false → priced_job prices j plan volumes ≡ Err 12
  unfolding priced_job
  priced_12 h g = simp (eq-eqb (length plan) (length j.nodes) h, g)

  -- past both, what the volume file says
  pub priced_billed
      : (x : Column) → length plan ≡ length j.nodes → good_marks j plan ≡ true → column_in volume_line (length j.nodes) volumes ≡ x
      → priced_job prices j plan volumes ≡ billed prices j plan x
  unfolding priced_job
  priced_billed x h g e = simp (eq-eqb (length plan) (length j.nodes) h, g, e)

-- ---- the answer for a file

module _ (prices file plan volumes : List ℕ) where
  -- it is turned back
  pub priced_turned : (k : ℕ) → read_job file ≡ turned k → priced_at prices file plan volumes ≡ Err k
  unfolding priced_at
  priced_turned k e = ap (λ (a : Answer). answered_at prices a plan volumes) e

  -- or is priced as its job
  pub priced_job_lem : (j : Job) → read_job file ≡ accepted j → priced_at prices file plan volumes ≡ priced_job prices j plan volumes
  unfolding priced_at
  priced_job_lem j e = ap (λ (a : Answer). answered_at prices a plan volumes) e

-- ---- what a node costs at most

-- every event the dearest price
pub cost_most
    : (prices : List ℕ) (top : ℕ) (p : Point) (w : Bool) (volume : ℕ) → ((s : ℕ) → get_or prices s 0 ≤ top) → volume ≤ 999999
    → cost prices p w volume ≤ 999999 * top
cost_most prices top no_point w volume most few = omega arith
cost_most prices top (point s) true volume most few = mul-le-mul few (most s)
cost_most prices top (point s) false volume most few = omega (arith, mul-le-mul few (most s))

-- ---- cents

-- the cents of a sum are the least that cover it
pub cents_covers : {t c : ℕ} → c ≡ cents_of t → Covers t c
cents_covers is = record { enough = omega arith; least = λ d h. omega arith }

-- and no other number is
pub covers_cents : {t c : ℕ} → Covers t c → c ≡ cents_of t
covers_cents {t} {c} h = omega (arith, h.enough, h.least (cents_of t) (omega arith))
