-- What the verdicts say, and the laws that the proofs of the functions cite.
-- Assumes nothing.
pub mod PlanLaws
pub mod CheckLaws
pub mod CheckingSays
