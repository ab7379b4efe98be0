-- Laws of the making of the index.
-- Assumes nothing.
pub mod BuildLaws
