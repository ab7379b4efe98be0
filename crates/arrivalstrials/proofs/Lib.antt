-- That the trials pass.
-- Assumes nothing.
pub mod ArrivalsTrialsPass
