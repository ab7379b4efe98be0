-- The rule that the buffer holds.
-- Assumes nothing.
pub mod Rule
