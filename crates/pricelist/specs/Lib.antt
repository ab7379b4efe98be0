-- The journal price of a plan at an association's own prices.
-- Assumes nothing.
pub mod PriceList
pub mod PriceListSays
pub mod PriceListTrials
-- inner contracts
pub mod Inner
