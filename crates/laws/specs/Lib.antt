-- The definitions that every layer cites.
-- Assumes nothing.
pub mod Bounded
pub mod Bits
pub mod Bytes
