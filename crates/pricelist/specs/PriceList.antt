-- The journal price of a plan at an association's own prices (document 02, "An association's own journal prices").
-- Assumes nothing.
use Rattle.std.specs.Prelude.{Result, Ok, Err, List, ℕ}
use Rattle.lines.specs.Lines.{LineKind}
use Rattle.pricing.specs.Numbered.{numbered_line, Column, column, not_these_lines, column_in, write_column}
use Rattle.pricing.specs.Pricing.{house_prices, priced_at, priced}

-- "B lines in symbol order: symbol, and cents per thousand, 0 to 9,999" (B is 66)
abbrev pub price_line : LineKind
price_line = numbered_line 66 9999 28

-- "a file of 16 B lines": its prices, symbol 0's first
abbrev pub prices_in : List ℕ → Column
prices_in prices = column_in price_line 16 prices

-- 28 where there would be a price: every other refusal comes before it
abbrev pub unlisted : Result ℕ ℕ → Result ℕ ℕ
unlisted (Ok c) = Err 28
unlisted (Err k) = Err k

-- "its price is the sum of request 1 with the file's prices, rounded as there"; 28 "when the file is not exactly these lines"
abbrev pub answered_by : Column → List ℕ → List ℕ → List ℕ → Result ℕ ℕ
answered_by (column prices) file plan volumes = priced_at prices file plan volumes
answered_by not_these_lines file plan volumes = unlisted (priced file plan volumes)

-- "a second price call gets that file too"
unfoldable pub priced_by : List ℕ → List ℕ → List ℕ → List ℕ → Result ℕ ℕ
priced_by file plan volumes prices = answered_by (prices_in prices) file plan volumes

-- the file that spells the house table
unfoldable pub house_file : List ℕ
unfolding house_prices write_column
house_file = write_column 66 0 house_prices
