-- The laws that the proof of the function cites, and what the whole table is.
-- Assumes nothing.
pub mod ReadLaws
pub mod TableLaws
