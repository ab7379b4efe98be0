-- What a round leaves.
-- Assumes nothing.
pub mod Rounds
