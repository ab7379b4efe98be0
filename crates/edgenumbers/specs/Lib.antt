-- Answers of the calls on edges that have a number.
-- Assumes nothing.
pub mod Fits
