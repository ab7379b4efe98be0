-- What moving a row by the symbols of a call set leaves.
-- Assumes nothing.
pub mod Spreading
