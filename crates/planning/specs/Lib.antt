-- Planning, the listing and the trial jobs as values, in the order of document 01.
-- Assumes nothing.
pub mod Planning
pub mod Listing
pub mod PlanningSays
pub mod Trials
pub mod Slips
