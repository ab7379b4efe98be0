-- Laws of the loop over the states.
-- Assumes nothing.
pub mod FinalLaws
