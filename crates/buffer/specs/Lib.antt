-- The lent work buffer.
-- Assumes nothing.
pub mod Buffer
-- inner contracts
pub mod Layout
pub mod Views
pub mod Kept
pub mod ClassRows
