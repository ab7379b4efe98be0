-- The lines of the listing, as they are written.
-- Assumes nothing.
pub mod TextWritten
