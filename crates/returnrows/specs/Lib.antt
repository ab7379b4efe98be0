-- Pairs gathered from nodes.
-- Assumes nothing.
pub mod Gathered
