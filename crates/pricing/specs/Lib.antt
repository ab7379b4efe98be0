-- The journal price of a plan.
-- Assumes nothing.
pub mod Numbered
pub mod Pricing
pub mod PricingSays
pub mod PricingTrials
pub mod NumberedAlike
-- inner contracts
pub mod Inner
