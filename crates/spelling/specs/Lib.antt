-- What words over a set lead to.
-- Assumes nothing.
pub mod Spelling
