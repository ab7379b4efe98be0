-- Answers by the number of what they are turned back with.
-- Assumes nothing.
pub mod Reasons
