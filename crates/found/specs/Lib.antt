-- What is found at all points together.
-- Assumes nothing.
pub mod FoundHeld
