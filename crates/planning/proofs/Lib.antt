-- The theorems that other crates cite.
-- Assumes nothing.
pub mod PlanBytes
pub mod PassLaws
pub mod PlanningLaws
pub mod PlanningResult
pub mod PlanningSays
pub mod TrialsPass
pub mod Slips
