-- What joining rows leaves.
-- Assumes nothing.
pub mod Joined
