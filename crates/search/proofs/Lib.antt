-- The laws that the proofs of the functions cite.
-- Assumes nothing.
pub mod RoundsLaws
pub mod SearchLaws
pub mod AllEnabled
