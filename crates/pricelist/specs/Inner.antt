-- What the reader of price files finds.
-- Inner contracts: what functions ask of and leave to each other. No promise is stated in them; a reader need not believe them.
-- Assumes nothing.
use Rattle.std.specs.Prelude.{◌≡◌, Bool, true, false, List, ℕ, length}
use Rattle.pricing.specs.Numbered.{Column, column, not_these_lines}
use Rattle.pricing.specs.Inner.{PricesFit}
use Rattle.pricelist.specs.PriceList.{prices_in}

-- sixteen prices within their limit
pub record SixteenFit (list : List ℕ) : Type 0 where
  pub sixteen : length list ≡ 16
  pub fit : PricesFit list

-- these prices, or none
abbrev pub listed_as : Bool → List ℕ → Column
listed_as true list = column list
listed_as false list = not_these_lines

-- what was read of a price file; where it is not these lines, the prices may be any sixteen within their limit
pub record PricesRead (prices list : List ℕ) (listed : Bool) : Type 0 where
  pub is : prices_in prices ≡ listed_as listed list
  pub fits : SixteenFit list
