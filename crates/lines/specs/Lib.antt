-- Fields and lines, then lines in turn: as they are read, as they stand in bytes, files alike, and lines by their places.
-- Assumes nothing.
pub mod Line
pub mod FieldTrials
pub mod Lines
pub mod Written
pub mod Alike
-- inner contracts
pub mod Places
pub mod Field
pub mod Inner
