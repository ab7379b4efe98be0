-- The laws that the proof of the function and those of the whole file cite.
-- Assumes nothing.
pub mod JobLaws
pub mod RestLaws
