-- The job in the work buffer, and what reading a file and its lines does.
-- Assumes nothing.
pub mod Numbers
pub mod Stored
pub mod ReadLines
pub mod Reading
