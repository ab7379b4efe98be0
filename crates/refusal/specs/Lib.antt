-- The reasons for which a call is turned back.
-- Assumes nothing.
pub mod Refusal
