-- The job as a value, in the order of document 01.
-- Assumes nothing.
pub mod Job
pub mod Walk
pub mod Plan
pub mod PlanSays
pub mod Search
pub mod WithoutReentry
pub mod Found
pub mod FoundSays
pub mod SearchSays
-- inner contracts
pub mod Words
