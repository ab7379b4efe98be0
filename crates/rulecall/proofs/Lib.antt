-- The laws that the proofs of the calls cite.
-- Assumes nothing.
pub mod CallLaws
