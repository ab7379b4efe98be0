-- Pairs joined at nodes.
-- Assumes nothing.
pub mod Joins
