-- The numbers of calls.
-- Assumes nothing.
pub mod CallNumber
