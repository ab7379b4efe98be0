-- Laws of putting edges in and taking them out.
-- Assumes nothing.
pub mod PutLaws
