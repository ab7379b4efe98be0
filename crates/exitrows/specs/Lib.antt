-- What the words after exits lead to.
-- Assumes nothing.
pub mod Ended
