-- Listing as a call.
-- Assumes nothing.
pub mod ListCall
pub mod ListSays
