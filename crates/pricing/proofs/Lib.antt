-- The theorems on prices, and the laws that the proofs of the functions cite.
-- Assumes nothing.
pub mod PricingTrialsPass
pub mod NumberedLaws
pub mod ColumnLines
pub mod NumberedAlikeLaws
pub mod PricingLaws
pub mod PricingSays
pub mod SavesLaws
pub mod LargestPrice
