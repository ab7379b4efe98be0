-- What joining into a relation leaves.
-- Assumes nothing.
pub mod Union
