-- The job file, in the order of document 01, and the text of a listing.
-- Assumes nothing.
pub mod File
pub mod FileTrials
pub mod ListingLines
pub mod ListingTrials
pub mod Refusal
pub mod Alike
pub mod Spellable
pub mod RuleLines
pub mod ListingFits
