-- Laws of the calls on edges.
-- Assumes nothing.
pub mod CallLaws
