-- The theorems that other crates cite.
-- Assumes nothing.
pub mod KindLaws
pub mod SearchLaws
pub mod PlanSays
pub mod Pairs
pub mod Bounds
pub mod ConfigLaws
pub mod WithoutReentry
pub mod Decide
pub mod FoundLaws
pub mod Rules
pub mod Nodes
pub mod WellFormedTest
