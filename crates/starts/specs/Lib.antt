-- What the starts of a search leave.
-- Assumes nothing.
pub mod Started
