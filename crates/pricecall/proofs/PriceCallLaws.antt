-- Laws of pricing as a call: what the door admits with a buffer of its own is what the file spells, and the price of its job is the answer; by a
-- price file of its lines it is that at these prices, by any other there is none.
-- Assumes nothing.
use Rattle.std.specs.Prelude.{Result, Err}
use mathlib.Core.Path.{◌≡◌, refl, sym, ap, ◌∙◌}
use mathlib.Core.Bool.{Bool, true, false, ◌||◌}
use mathlib.Core.List.{List}
use Prim.Native.Nat.{ℕ, ◌≤◌}
use native.Mathlib.Omega.{arith}
use lib.Dec.{ltb}
use lib.ListN.{length, replicate, length-replicate}
use borrow.Author.Tests.{le-ltb}
use Rattle.laws.proofs.Tests.{or_fails}
use Rattle.job.specs.Job.{point_of, Node}
use Rattle.jobfile.specs.File.{read_job}
use Rattle.jobhead.specs.Numbers.{HeadNumbers}
use Rattle.buffer.specs.Buffer.{work_size}
use Rattle.admission.specs.Admission.{admitted}
use Rattle.admission.specs.Admitted.{Admitted}
use Rattle.admission.proofs.AdmissionLaws.{admitted_read}
use Rattle.admission.proofs.CallLaws.{answer_refused}
use Rattle.pricing.specs.Pricing.{house_prices, priced_at, priced}
use Rattle.pricing.specs.Inner.{PricesFit, BillFit, Billed}
use Rattle.pricing.proofs.NumberedLaws.{column_says}
use Rattle.pricing.proofs.PricingLaws.{priced_turned, priced_job_lem}
use Rattle.pricing.proofs.LargestPrice.{same_within}
use Rattle.pricelist.specs.PriceList.{price_line, unlisted, priced_by}
use Rattle.pricelist.specs.Inner.{SixteenFit, listed_as, PricesRead}
use Rattle.pricelist.proofs.PriceListSays.{house_within, at_its_prices, without_list, unlisted_any}

-- the buffer on the stack is long enough
pub enough : work_size ≤ length {A = ℕ} (replicate work_size 0)
enough = let e = length-replicate {A = ℕ} work_size 0 in omega arith

-- with a buffer that is long enough, what is admitted is what the file spells
spelt : (file l : List ℕ) → work_size ≤ length l → admitted file (ltb (length l) work_size || false) ≡ read_job file
spelt file l h = admitted_read file (ltb (length l) work_size || false) (or_fails (ltb (length l) work_size) false (le-ltb (length l) work_size h) refl)

module _ (prices file plan volumes l m : List ℕ) (r : HeadNumbers) (enough : work_size ≤ length l)
    (a : Admitted (admitted file (ltb (length l) work_size || false)) l m r) where
  -- a refusal of the job file
  pub price_turned : (r.refusal ≡ 0 → ⊥) → Err r.refusal ≡ priced_at prices file plan volumes
  price_turned h = sym (priced_turned prices file plan volumes r.refusal (sym (spelt file l enough) ∙ answer_refused a h))

  module _ (h : r.refusal ≡ 0) where
    -- what is asked of buffer and prices
    pub price_fit : PricesFit prices → BillFit m prices r.nodes
    price_fit fit =
        let j = a.job h in
        let held = j.held in
        record {
          long = j.usable.long;
          few = j.usable.few_nodes;
          symbol = λ n s l e.
              let below = (held.formed.kinds n).point_below_holds s (ap (λ (x : Node). point_of x.kind) (sym (held.node n l)) ∙ e) in
              omega (arith, below, held.formed.rule.few_symbols);
          prices_fit = fit;
        }

    -- the price of the job that was admitted
    pub price_billed : (p : Result ℕ ℕ) → Billed prices m r.nodes plan volumes p → p ≡ priced_at prices file plan volumes
    price_billed p b =
        let j = a.job h in
        b j.job (record { count = j.held.nodes_are; node = j.held.node })
        ∙ sym (priced_job_lem prices file plan volumes j.job (sym (spelt file l enough) ∙ j.is))

-- ---- the two calls

-- the house prices are within their limit
pub house_fit : (prices : List ℕ) → prices ≡ house_prices → PricesFit prices
house_fit prices e s = rw e (house_within s)

-- the answer at the house prices
pub at_house
    : (file plan volumes prices : List ℕ) (p : Result ℕ ℕ) → prices ≡ house_prices → p ≡ priced_at prices file plan volumes → p ≡ priced file plan volumes
at_house file plan volumes prices p h e = e ∙ ap (λ (l : List ℕ). priced_at l file plan volumes) h

-- sixteen prices before any is read
pub none_fit : SixteenFit (replicate 16 0)
none_fit = record { sixteen = length-replicate {A = ℕ} 16 0; fit = λ s. omega (arith, same_within 0 16 s) }

module _ (file plan volumes prices list : List ℕ) where
  -- by a price file of its lines
  pub by_list
      : (listed : Bool) (p : Result ℕ ℕ) → PricesRead prices list listed → listed ≡ true → p ≡ priced_at list file plan volumes
      → p ≡ priced_by file plan volumes prices
  by_list listed p read is e =
      let f = (column_says price_line 16 prices list).0 (read.is ∙ ap (λ (b : Bool). listed_as b list) is) in
      e ∙ sym (at_its_prices file plan volumes prices list f)

  -- by any other file
  pub by_none
      : (listed : Bool) (p : Result ℕ ℕ) → PricesRead prices list listed → listed ≡ false → p ≡ priced_at list file plan volumes
      → unlisted p ≡ priced_by file plan volumes prices
  by_none listed p read is e =
      ap unlisted e ∙ unlisted_any file plan volumes list
      ∙ sym (without_list file plan volumes prices (read.is ∙ ap (λ (b : Bool). listed_as b list) is))
