-- What the calls on edges ask at a place.
-- Assumes nothing.
pub mod Standing
