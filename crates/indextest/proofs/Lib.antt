-- Laws of the test of the edges and of their index.
-- Assumes nothing.
pub mod AscendLaws
pub mod FreshLaws
