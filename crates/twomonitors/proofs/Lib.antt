-- The theorems that other crates cite.
-- Assumes nothing.
pub mod MonitorsLaws
pub mod MonitorsMore
pub mod OrderLaws
pub mod TwoMonitors
