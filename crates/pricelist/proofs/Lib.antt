-- The theorems on an association's own prices.
-- Assumes nothing.
pub mod PriceListSays
pub mod PriceListTrialsPass
