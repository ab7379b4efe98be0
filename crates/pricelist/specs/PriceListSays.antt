-- What the answers at an association's own prices say (document 02, "An association's own journal prices"): of the file, the plan and the lines
-- of both other files; that the house table from a file gives the answers of the first call; how large a price can be; and that a caller reads
-- the answer back from the number.
-- Assumes nothing.
use Rattle.std.specs.Prelude.{Ok, Err, ◌≡◌, ◌↔◌, List, [], ℕ, ◌≤◌, ◌<◌, length, get_or, replicate}
use Rattle.job.specs.Job.{Job}
use Rattle.lines.specs.Line.{at}
use Rattle.jobfile.specs.File.{write_job}
use Rattle.pricing.specs.Numbered.{ColumnFile, write_column}
use Rattle.pricing.specs.Pricing.{house_prices, day_cost, priced_at, priced, price_number}
use Rattle.pricing.specs.PricingSays.{Billable, Covers, PriceRefused, dearest, price_read}
use Rattle.pricelist.specs.PriceList.{price_line, priced_by, house_file}

-- ---- the price file

-- a file is exactly the sixteen lines of these prices
abbrev pub PriceFile : List ℕ → List ℕ → Type 0
PriceFile prices list = ColumnFile price_line 16 prices list

-- the statement: line s has symbol s; there are sixteen prices, none above 9,999, whatever the job; and every sixteen such prices have a file
pub record PriceFilesSay : Type 0 where
  pub in_order : (prices list : List ℕ) (f : PriceFile prices list) (s : ℕ) → s < 16 → at (get_or f.lines s []) 0 ≡ s
  pub sixteen : (prices list : List ℕ) → PriceFile prices list → length list ≡ 16
  pub within : (prices list : List ℕ) → PriceFile prices list → (s : ℕ) → get_or list s 0 ≤ 9999
  pub written : (list : List ℕ) → length list ≡ 16 → ((s : ℕ) → get_or list s 0 ≤ 9999) → PriceFile (write_column 66 0 list) list

-- ---- the answer

-- the statement: by a file of these lines the answer is that of pricing at its prices, so what is said at any prices is said of it
abbrev pub AtItsPrices : Type 0
AtItsPrices =
    (file plan volumes prices list : List ℕ) → PriceFile prices list → priced_by file plan volumes prices ≡ priced_at list file plan volumes

-- the statement: there is a price if and only if nothing is turned back, and it is the least that covers the sum at the file's prices
abbrev pub SaysOwnPrice : Type 0
SaysOwnPrice =
    (file plan volumes prices : List ℕ) (c : ℕ)
    → (priced_by file plan volumes prices ≡ Ok c)
    ↔ ((j : Job) × (counts : List ℕ) × (list : List ℕ) × Billable file plan volumes j counts × PriceFile prices list
    × Covers (day_cost list j plan counts) c)

-- r is the first that fails
pub data OwnPriceRefused (file plan volumes prices : List ℕ) : ℕ → Type 0 where
  -- 1, 3 to 12, 16: those of the first call
  without_prices : {r : ℕ} → PriceRefused file plan volumes r → OwnPriceRefused file plan volumes prices r
  -- 28: nothing else is turned back, and "the file is not exactly these lines"
  other_prices
      : {j : Job} {counts : List ℕ} → Billable file plan volumes j counts → ((list : List ℕ) → PriceFile prices list → ⊥)
      → OwnPriceRefused file plan volumes prices 28

-- the statement: the answer is the refusal r if and only if r is the first that fails
abbrev pub RefusesOwnPrice : Type 0
RefusesOwnPrice =
    (file plan volumes prices : List ℕ) (r : ℕ)
    → (priced_by file plan volumes prices ≡ Err r) ↔ OwnPriceRefused file plan volumes prices r

-- ---- the house table from a file

-- the statement: the file that spells the house table has its prices; and that file, and every other one of its prices, gives the answers of
-- the first call, for every job, plan and volume file
pub record HouseTableLoads : Type 0 where
  pub spells : PriceFile house_file house_prices
  pub same : (file plan volumes : List ℕ) → priced_by file plan volumes house_file ≡ priced file plan volumes
  pub any_spelling
      : (file plan volumes prices : List ℕ) → PriceFile prices house_prices → priced_by file plan volumes prices ≡ priced file plan volumes

-- ---- how large a price can be

-- the largest price at any prices of a file, in cents
abbrev pub max_own_price : ℕ
max_own_price = 5119482881

-- the statement: no price is larger, and 512 watched points with 999,999 events a day have it at 9,999 cents per thousand
pub record LargestOwnPrice : Type 0 where
  pub at_most : (file plan volumes prices : List ℕ) (c : ℕ) → priced_by file plan volumes prices ≡ Ok c → c ≤ max_own_price
  pub reached
      : priced_by (write_job dearest) (replicate 512 1) (write_column 86 0 (replicate 512 999999)) (write_column 66 0 (replicate 16 9999))
      ≡ Ok max_own_price

-- ---- the number

-- the statement: a caller reads back the price or the refusal from the number
abbrev pub OwnPriceByNumber : Type 0
OwnPriceByNumber =
    (file plan volumes prices : List ℕ)
    → price_read (price_number (priced_by file plan volumes prices)) ≡ priced_by file plan volumes prices
