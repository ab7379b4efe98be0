-- What looking at one row leaves.
-- Assumes nothing.
pub mod Looking
