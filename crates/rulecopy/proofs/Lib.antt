-- The law that the proof of the copy cites.
-- Assumes nothing.
pub mod CopyLaws
