-- Laws of the loops over positions and states.
-- Assumes nothing.
pub mod NumberLaws
