-- The trials of listing pass.
-- Assumes nothing.
pub mod ListTrialsPass
