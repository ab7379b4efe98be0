-- The listing of the job that the work buffer holds.
-- Assumes nothing.
pub mod Held
