-- What a search leaves.
-- Assumes nothing.
pub mod Searched
