-- The plan check.
-- Assumes nothing.
pub mod Checking
pub mod CheckingSays
-- inner contracts
pub mod Inner
