-- A rule by value.
-- Assumes nothing.
pub mod Value
