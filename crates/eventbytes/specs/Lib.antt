-- The event step on bytes.
-- Assumes nothing.
pub mod Event
pub mod Form
