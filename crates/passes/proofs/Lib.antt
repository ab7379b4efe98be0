-- The laws that the proofs of the functions cite.
-- Assumes nothing.
pub mod PlanInLaws
pub mod RunningLaws
pub mod RunningTrialsPass
pub mod TryLaws
pub mod GoneLaws
pub mod PassMadeLaws
pub mod EnabledLaws
