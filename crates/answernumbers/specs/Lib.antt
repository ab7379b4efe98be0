-- Answers whose number has 64 bits.
-- Assumes nothing.
pub mod Fits
