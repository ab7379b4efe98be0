-- Laws of the call that makes the index afresh.
-- Assumes nothing.
pub mod IndexCallLaws
