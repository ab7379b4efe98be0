-- The answers that their number holds.
-- Assumes nothing.
pub mod Fits
