-- Trials of the arrivals index.
-- Assumes nothing.
pub mod ArrivalsTrials
