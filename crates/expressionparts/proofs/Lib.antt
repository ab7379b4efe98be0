-- Laws of the parts of a text that are read.
-- Assumes nothing.
pub mod ReadingLaws
pub mod PartLaws
