-- What putting an edge in and taking one out asks.
-- Assumes nothing.
pub mod Ready
