-- What the backward searches leave, and what is found at a point.
-- Assumes nothing.
pub mod Backwards
pub mod Classes
pub mod Returns
pub mod FoundSays
