-- The answers at an association's own prices say what stands in the file, the plan, the volume file and the price file.
-- Why: by a price file of its lines the answer is that of pricing at these prices, and whether there is a price goes by no price.
-- Assumes nothing.
use Rattle.std.specs.Prelude.{Result, Ok, Err}
use mathlib.Core.Path.{◌≡◌, refl, sym, ap, ◌∙◌, subst}
use mathlib.Core.Logic.{◌⊎◌, inl, inr, ⊎_elim}
use mathlib.Core.List.{List, []}
use Prim.Native.Nat.{ℕ, ◌≤◌, ◌<◌}
use native.Mathlib.Omega.{arith}
use lib.Dec.{lit<}
use lib.ListN.{length, get_or, replicate, get_or-replicate, length-map, length-replicate}
use Rattle.lines.specs.Line.{at}
use Rattle.jobfile.specs.File.{write_job}
use Rattle.pricing.specs.Numbered.{Column, column, not_these_lines, write_column}
use Rattle.pricing.specs.Pricing.{house_prices, priced_at, priced, price_number}
use Rattle.pricing.specs.PricingSays.{dearest, price_read}
use Rattle.pricing.proofs.NumberedLaws.{column_says, no_column_says, written_column, column_within, column_places}
use Rattle.pricing.proofs.PricingSays.{price_says, price_refused, price_of, price_by_number, house_prices_say}
use Rattle.pricing.proofs.LargestPrice.{same_within, house_price_most, price_most, dearest_price}
use Rattle.pricelist.specs.PriceList.{price_line, prices_in, unlisted, answered_by, priced_by, house_file}
use Rattle.pricelist.specs.PriceListSays.{PriceFile, PriceFilesSay, AtItsPrices, SaysOwnPrice, OwnPriceRefused, without_prices, other_prices, RefusesOwnPrice, HouseTableLoads, max_own_price, LargestOwnPrice, OwnPriceByNumber}

-- ---- the price file

-- line s has symbol s
in_order : (prices list : List ℕ) (f : PriceFile prices list) (s : ℕ) → s < 16 → at (get_or f.lines s []) 0 ≡ s
in_order prices list f = column_places 66 _ 28 16 prices list f

-- no price is above the limit
within : (prices list : List ℕ) → PriceFile prices list → (s : ℕ) → get_or list s 0 ≤ 9999
within prices list f = column_within 66 9999 28 16 prices list f

-- every sixteen prices within the limit have a file
written : (list : List ℕ) → length list ≡ 16 → ((s : ℕ) → get_or list s 0 ≤ 9999) → PriceFile (write_column 66 0 list) list
written list sixteen below =
    (column_says price_line 16 (write_column 66 0 list) list).0
    (rw sixteen at (written_column 66 9999 28 list (lit< tt) (omega (arith, sixteen)) below))

-- what is said of price files
pub price_files_say : PriceFilesSay
price_files_say =
    record {
      in_order = in_order;
      sixteen = λ prices list f.
          ap (λ (l : List ℕ). length l) f.are ∙ length-map f.lines (λ (ns : List ℕ). at ns 1) ∙ f.stand.count;
      within = within;
      written = written;
    }

-- a file has its prices, or is not these lines
listed_or_none : (prices : List ℕ) → ((list : List ℕ) × PriceFile prices list) ⊎ (prices_in prices ≡ not_these_lines)
listed_or_none prices = go (prices_in prices) refl
  where
    go : (x : Column) → prices_in prices ≡ x → ((list : List ℕ) × PriceFile prices list) ⊎ (prices_in prices ≡ not_these_lines)
    go (column list) is = inl (list, (column_says price_line 16 prices list).0 is)
    go not_these_lines is = inr is

-- ---- the answer

module _ (file plan volumes : List ℕ) where
  -- for what the price file is
  answered : (prices : List ℕ) (x : Column) → prices_in prices ≡ x → priced_by file plan volumes prices ≡ answered_by x file plan volumes
  unfolding priced_by
  answered prices x e = ap (λ (c : Column). answered_by c file plan volumes) e

  -- whether there is a price goes by no price
  pub unlisted_any : (list : List ℕ) → unlisted (priced_at list file plan volumes) ≡ unlisted (priced file plan volumes)
  unlisted_any list = go (priced_at list file plan volumes) refl
    where
      go : (p : Result ℕ ℕ) → priced_at list file plan volumes ≡ p → unlisted (priced_at list file plan volumes) ≡ unlisted (priced file plan volumes)
      go (Ok c) e =
          let (j, counts, b, covers) = (price_says list file plan volumes c).0 e in
          ap unlisted e ∙ sym (ap unlisted (price_of house_prices file plan volumes b))
      go (Err k) e =
          ap unlisted (e ∙ sym ((price_refused house_prices file plan volumes k).1 ((price_refused list file plan volumes k).0 e)))

-- by a file of these lines
pub at_its_prices : AtItsPrices
at_its_prices file plan volumes prices list f = answered file plan volumes prices (column list) ((column_says price_line 16 prices list).1 f)

-- by any other file
pub without_list
    : (file plan volumes prices : List ℕ) → prices_in prices ≡ not_these_lines
    → priced_by file plan volumes prices ≡ unlisted (priced file plan volumes)
without_list file plan volumes prices none = answered file plan volumes prices not_these_lines none

-- without a list there is no price
no_price : (p : Result ℕ ℕ) (c : ℕ) → unlisted p ≡ Ok c → ⊥
no_price (Ok d) c e = let z : ◌≡◌ {A = ℕ} 0 1 = cc e in omega arith
no_price (Err k) c e = let z : ◌≡◌ {A = ℕ} 0 1 = cc e in omega arith

module _ (file plan volumes prices : List ℕ) where
  -- a price is that of a list
  price_listed
      : (c : ℕ) → priced_by file plan volumes prices ≡ Ok c
      → (list : List ℕ) × PriceFile prices list × (priced_at list file plan volumes ≡ Ok c)
  price_listed c e =
      ⊎_elim
      (λ (list, f). (list, f, sym (at_its_prices file plan volumes prices list f) ∙ e))
      (λ none. absurd (no_price (priced file plan volumes) c (sym (without_list file plan volumes prices none) ∙ e)))
      (listed_or_none prices)

  -- a refusal is the first that fails
  first_fails : (r : ℕ) → priced_by file plan volumes prices ≡ Err r → OwnPriceRefused file plan volumes prices r
  first_fails r e =
      ⊎_elim
      (λ (list, f).
      without_prices ((price_refused list file plan volumes r).0 (sym (at_its_prices file plan volumes prices list f) ∙ e)))
      (λ none. go none (priced file plan volumes) refl (sym (without_list file plan volumes prices none) ∙ e))
      (listed_or_none prices)
    where
      go
          : prices_in prices ≡ not_these_lines → (p : Result ℕ ℕ) → priced file plan volumes ≡ p → unlisted p ≡ Err r
          → OwnPriceRefused file plan volumes prices r
      go none (Ok c) p u =
          let (j, counts, b, covers) = (price_says house_prices file plan volumes c).0 p in
          let is : 28 ≡ r = cc u in
          subst (OwnPriceRefused file plan volumes prices) is (other_prices b ((no_column_says price_line 16 prices).0 none))
      go none (Err k) p u = without_prices ((price_refused house_prices file plan volumes r).0 (p ∙ u))

  -- and the first that fails is the refusal
  fails_first : {r : ℕ} → OwnPriceRefused file plan volumes prices r → priced_by file plan volumes prices ≡ Err r
  fails_first (without_prices {r} b) =
      ⊎_elim
      (λ (list, f). at_its_prices file plan volumes prices list f ∙ (price_refused list file plan volumes r).1 b)
      (λ none. without_list file plan volumes prices none ∙ ap unlisted ((price_refused house_prices file plan volumes r).1 b))
      (listed_or_none prices)
  fails_first (other_prices b none) =
      without_list file plan volumes prices ((no_column_says price_line 16 prices).1 none)
      ∙ ap unlisted (price_of house_prices file plan volumes b)

-- a price is said of what is not turned back, and is the least that covers the sum
pub own_price_says : SaysOwnPrice
own_price_says file plan volumes prices c = (
  λ e.
      let (list, f, at) = price_listed file plan volumes prices c e in
      let (j, counts, b, covers) = (price_says list file plan volumes c).0 at in
      (j, counts, list, b, f, covers),
  λ (j, counts, list, b, f, covers).
      at_its_prices file plan volumes prices list f ∙ (price_says list file plan volumes c).1 (j, counts, b, covers),
)

-- a refusal is said of the first that fails
pub own_price_refused : RefusesOwnPrice
own_price_refused file plan volumes prices r = (first_fails file plan volumes prices r, fails_first file plan volumes prices)

-- ---- the house table from a file

-- they are within the limit
pub house_within : (s : ℕ) → get_or house_prices s 0 ≤ 9999
house_within s = omega (arith, house_price_most s)

-- their file spells them
house_spelt : PriceFile house_file house_prices
unfolding house_file
house_spelt = written house_prices house_prices_say.sixteen house_within

-- so by it the answers are those of the first call
pub house_table_loads : HouseTableLoads
house_table_loads =
    record {
      spells = house_spelt;
      same = λ file plan volumes. at_its_prices file plan volumes house_file house_prices house_spelt;
      any_spelling = λ file plan volumes prices f. at_its_prices file plan volumes prices house_prices f;
    }

-- ---- how large a price can be

-- no price is larger
pub own_price_at_most
    : (file plan volumes prices : List ℕ) (c : ℕ) → priced_by file plan volumes prices ≡ Ok c → c ≤ max_own_price
own_price_at_most file plan volumes prices c e =
    let (list, f, at) = price_listed file plan volumes prices c e in
    omega (arith, price_most list 9999 file plan volumes c (within prices list f) at)

-- the largest price
pub largest_own_price : LargestOwnPrice
largest_own_price =
    record {
      at_most = own_price_at_most;
      reached =
          at_its_prices (write_job dearest) (replicate 512 1) (write_column 86 0 (replicate 512 999999)) (write_column 66 0 (replicate 16 9999))
          (replicate 16 9999) (written (replicate 16 9999) (length-replicate {A = ℕ} 16 9999) (same_within 9999 16))
          ∙ dearest_price (replicate 16 9999) 9999 (get_or-replicate {A = ℕ} 16 15 9999 0 (omega arith));
    }

-- ---- the number

-- the answer is read back
pub own_price_by_number : OwnPriceByNumber
own_price_by_number file plan volumes prices =
    ⊎_elim
    (λ (list, f). subst Read (sym (at_its_prices file plan volumes prices list f)) (price_by_number list file plan volumes))
    (λ none. subst Read (sym (without_list file plan volumes prices none)) (go (priced file plan volumes) refl))
    (listed_or_none prices)
  where
    Read : Result ℕ ℕ → Type 0
    Read p = price_read (price_number p) ≡ p

    go : (p : Result ℕ ℕ) → priced file plan volumes ≡ p → Read (unlisted p)
    go (Ok c) e = refl
    go (Err k) e = subst Read e (price_by_number house_prices file plan volumes)
