-- The laws that the proofs of the functions cite.
-- Assumes nothing.
pub mod WordLaws
pub mod GrownLaws
pub mod AfterLaws
pub mod ClassLaws
pub mod FoundLaws
pub mod FoundSays
