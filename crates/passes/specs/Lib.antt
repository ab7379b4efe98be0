-- Planning in the work buffer.
-- Assumes nothing.
pub mod Counts
pub mod Running
pub mod RunningTrials
-- inner contracts
pub mod Passes
