-- What a caller of listing has.
-- Assumes nothing.
pub mod ListSays
