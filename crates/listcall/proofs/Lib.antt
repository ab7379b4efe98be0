-- The laws that the proof of the call cites.
-- Assumes nothing.
pub mod CallLaws
