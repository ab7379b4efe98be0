-- What the proofs of the calls cite.
-- Assumes nothing.
pub mod FitsLaws
