-- The running monitor.
-- Assumes nothing.
pub mod Monitor
pub mod Answer
pub mod Form
pub mod Run
