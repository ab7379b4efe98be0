-- The laws that other crates cite.
-- Assumes nothing.
pub mod Tests
pub mod Bounded
pub mod Bits
pub mod Image
pub mod Walk
pub mod Count
pub mod Sets
pub mod Bytes
