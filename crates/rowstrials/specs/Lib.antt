-- Trials of rule rows.
-- Assumes nothing.
pub mod RowsTrials
