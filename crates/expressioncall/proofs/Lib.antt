-- The ways out of the call.
-- Assumes nothing.
pub mod CallLaws
