-- Trials of listing.
-- Assumes nothing.
pub mod ListTrials
