-- What joining at calls and entries leaves.
-- Assumes nothing.
pub mod Reentry
