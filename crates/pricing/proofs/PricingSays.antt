-- The answers of pricing say what stands in the file, the plan and the volume file, and are read back from the number.
-- Why: the tests are made in the order of the refusals, and each says in words what it tests.
-- Assumes nothing.
use Rattle.std.specs.Prelude.{Result, Ok, Err}
use mathlib.Core.Path.{◌≡◌, refl, sym, ap, ◌∙◌}
use mathlib.Core.Logic.{⊎_elim}
use mathlib.Core.Bool.{Bool, true, false, ◌&&◌, true≢false}
use mathlib.Core.List.{List}
use Prim.Native.Nat.{ℕ, zero, suc, ◌+◌, ◌*◌, ◌≤◌, ◌<◌}
use native.Mathlib.Omega.{arith}
use lib.Dec.{eqb}
use lib.ListN.{length}
use borrow.Author.Tests.{eqb-true, eqb-false, lt-leb, le-leb}
use Rattle.laws.specs.Bounded.{all_below}
use Rattle.laws.proofs.Bounded.{length_tab, get_d_tab}
use Rattle.laws.proofs.Tests.{passes_or_fails, fails_of}
use Rattle.callnumber.specs.CallNumber.{accepted_from}
use Rattle.job.specs.Job.{Job, node_at}
use Rattle.jobfile.specs.File.{Answer, accepted, turned, read_job}
use Rattle.jobfile.proofs.ListingFits.{listing_fits}
use Rattle.checking.specs.Checking.{good_marks}
use Rattle.checking.proofs.CheckLaws.{marks}
use Rattle.checking.proofs.CheckingSays.{mark_good, marks_say}
use Rattle.pricing.specs.Numbered.{Column, column, not_these_lines, column_in}
use Rattle.pricing.specs.Pricing.{volume_line, house_prices, day_cost, cents_of, priced_job, priced_at, price_number}
use Rattle.pricing.specs.PricingSays.{Billable, SaysPrice, PriceRefused, job_refused, other_length, other_mark, other_lines, RefusesPrice, CostsSay, HousePricesSay, price_read, PriceByNumber}
use Rattle.pricing.proofs.NumberedLaws.{column_says, no_column_says}
use Rattle.pricing.proofs.PricingLaws.{priced_11, priced_12, priced_billed, priced_turned, priced_job_lem, cents_covers, covers_cents}

-- ---- plan bytes

-- a test that fails below n fails at some number
fails_at : (n : ℕ) (f : ℕ → Bool) → all_below n f ≡ false → (i : ℕ) × (i < n) × (f i ≡ false)
unfolding all_below
fails_at zero f h = absurd (true≢false h)
fails_at (suc n) f h =
    ⊎_elim
    (λ (t : f n ≡ true). let r = fails_at n f (sym (and_true (all_below n f) (f n) t) ∙ h) in (r.0, omega (arith, r.1), r.2))
    (λ (t : f n ≡ false). (n, omega arith, t))
    (passes_or_fails (f n))
  where
    and_true : (a b : Bool) → b ≡ true → (a && b) ≡ a
    and_true true b e = e
    and_true false b e = refl

-- ---- the answer

module _ (prices file plan volumes : List ℕ) where
  -- an answer, with what it says
  data Says : Result ℕ ℕ → Type 0 where
    has_price
        : {j : Job} {counts : List ℕ} → Billable file plan volumes j counts → Says (Ok (cents_of (day_cost prices j plan counts)))
    has_refusal : {r : ℕ} → PriceRefused file plan volumes r → Says (Err r)

  module _ (j : Job) (spells : read_job file ≡ accepted j) where
    -- the answer for the file is that of its job
    of_job : {p : Result ℕ ℕ} → priced_job prices j plan volumes ≡ p → Says p → Says (priced_at prices file plan volumes)
    of_job e s = rw (priced_job_lem prices file plan volumes j spells, e) s

    -- past 11 and 12
    said_volumes : length plan ≡ length j.nodes → good_marks j plan ≡ true → Says (priced_at prices file plan volumes)
    said_volumes bytes g = go (column_in volume_line (length j.nodes) volumes) refl
      where
        go : (x : Column) → column_in volume_line (length j.nodes) volumes ≡ x → Says (priced_at prices file plan volumes)
        go (column counts) e =
            of_job (priced_billed prices j plan volumes (column counts) bytes g e)
            (has_price (record {
              spells = spells;
              bytes = bytes;
              marks = (marks_say j plan).0 g;
              lines = (column_says volume_line (length j.nodes) volumes counts).0 e;
            }))
        go not_these_lines e =
            of_job (priced_billed prices j plan volumes not_these_lines bytes g e)
            (has_refusal (other_lines spells bytes ((marks_say j plan).0 g) ((no_column_says volume_line (length j.nodes) volumes).0 e)))

    -- the answer for a job
    said_job : Says (priced_at prices file plan volumes)
    said_job =
        ⊎_elim
        (λ (l : eqb (length plan) (length j.nodes) ≡ true).
        let bytes = eqb-true (length plan) (length j.nodes) l in
        ⊎_elim
        (λ (g : good_marks j plan ≡ true). said_volumes bytes g)
        (λ (g : good_marks j plan ≡ false).
        let (n, within, bad) = fails_at (length j.nodes) (marks plan (node_at j)) g in
        of_job (priced_12 prices j plan volumes bytes g)
        (has_refusal (other_mark spells bytes within (λ m. true≢false (sym (mark_good m) ∙ bad)))))
        (passes_or_fails (good_marks j plan)))
        (λ (l : eqb (length plan) (length j.nodes) ≡ false).
        let other = eqb-false (length plan) (length j.nodes) l in
        of_job (priced_11 prices j plan volumes other) (has_refusal (other_length spells other)))
        (passes_or_fails (eqb (length plan) (length j.nodes)))

  -- the answer of pricing
  said : Says (priced_at prices file plan volumes)
  said = go (read_job file) refl
    where
      go : (a : Answer) → read_job file ≡ a → Says (priced_at prices file plan volumes)
      go (accepted j) e = said_job j e
      go (turned k) e = rw (priced_turned prices file plan volumes k e) (has_refusal (job_refused e))

  -- where nothing is turned back, the price is that of the sum
  pub price_of
      : {j : Job} {counts : List ℕ} → Billable file plan volumes j counts
      → priced_at prices file plan volumes ≡ Ok (cents_of (day_cost prices j plan counts))
  price_of {j} {counts} b =
      priced_job_lem prices file plan volumes j b.spells
      ∙ priced_billed prices j plan volumes (column counts) b.bytes ((marks_say j plan).1 b.marks)
      ((column_says volume_line (length j.nodes) volumes counts).1 b.lines)

  -- a price is that of the sum, and nothing is turned back
  pub price_sum
      : {c : ℕ} → priced_at prices file plan volumes ≡ Ok c
      → (j : Job) × (counts : List ℕ) × Billable file plan volumes j counts × (c ≡ cents_of (day_cost prices j plan counts))
  price_sum {c} e = only (rw e at said)
    where
      only
          : {p : ℕ} → Says (Ok p)
          → (j : Job) × (counts : List ℕ) × Billable file plan volumes j counts × (p ≡ cents_of (day_cost prices j plan counts))
      only (has_price {j} {counts} b) = (j, counts, b, refl)

  -- the first that fails is the refusal
  refused_answer : {r : ℕ} → PriceRefused file plan volumes r → priced_at prices file plan volumes ≡ Err r
  refused_answer (job_refused {r} e) = priced_turned prices file plan volumes r e
  refused_answer (other_length {j} e other) = priced_job_lem prices file plan volumes j e ∙ priced_11 prices j plan volumes other
  refused_answer (other_mark {j} {n} e bytes within bad) =
      priced_job_lem prices file plan volumes j e
      ∙ priced_12 prices j plan volumes bytes
      (fails_of (good_marks j plan) (λ g. bad ((marks_say j plan).0 g n within)))
  refused_answer (other_lines {j} e bytes marks none) =
      priced_job_lem prices file plan volumes j e
      ∙ priced_billed prices j plan volumes not_these_lines bytes ((marks_say j plan).1 marks)
      ((no_column_says volume_line (length j.nodes) volumes).1 none)

-- a price is said of what is not turned back, and is the least that covers the sum
pub price_says : SaysPrice
price_says prices file plan volumes c = (
  λ e. let (j, counts, b, is) = price_sum prices file plan volumes e in (j, counts, b, cents_covers is),
  λ (j, counts, b, covers). price_of prices file plan volumes b ∙ ap Ok (sym (covers_cents covers)),
)

-- a refusal is said of the first that fails
pub price_refused : RefusesPrice
price_refused prices file plan volumes r = (λ e. only (rw e at (said prices file plan volumes)), refused_answer prices file plan volumes)
  where
    only : {k : ℕ} → Says prices file plan volumes (Err k) → PriceRefused file plan volumes k
    only (has_refusal b) = b

-- ---- what a node costs, and the house prices

-- volume times price at a watched point, nothing elsewhere
pub costs_say : CostsSay
costs_say = record { watched = λ prices s volume. refl; unwatched = λ prices s volume. refl; elsewhere = λ prices w volume. refl }

-- sixteen, by their rule
pub house_prices_say : HousePricesSay
unfolding house_prices
house_prices_say =
    record { sixteen = length_tab 16 (λ s. 20 + 5 * s); rule = λ s h. get_d_tab 16 (λ s. 20 + 5 * s) s 0 h }

-- ---- the number

-- a refusal's number is small
abbrev SmallRefusal : Result ℕ ℕ → Type 0
SmallRefusal (Ok c) = Unit {0}
SmallRefusal (Err k) = k ≤ 16

-- that of pricing
priced_small : (prices file plan volumes : List ℕ) → SmallRefusal (priced_at prices file plan volumes)
priced_small prices file plan volumes = go (said prices file plan volumes)
  where
    small : {r : ℕ} → PriceRefused file plan volumes r → r ≤ 16
    small (job_refused {r} e) = omega (arith, listing_fits.turned_back file r e)
    small (other_length e other) = omega arith
    small (other_mark e bytes within bad) = omega arith
    small (other_lines e bytes marks none) = omega arith

    go : {p : Result ℕ ℕ} → Says prices file plan volumes p → SmallRefusal p
    go (has_price b) = tt
    go (has_refusal b) = small b

-- an answer with a small refusal is read back
read_small : (p : Result ℕ ℕ) → SmallRefusal p → price_read (price_number p) ≡ p
read_small (Ok c) s = simp (le-leb accepted_from (accepted_from + c) (omega arith)) (ap Ok (omega arith))
read_small (Err k) s = simp (lt-leb accepted_from k (omega arith))

-- the answer is read back
pub price_by_number : PriceByNumber
price_by_number prices file plan volumes = read_small (priced_at prices file plan volumes) (priced_small prices file plan volumes)
