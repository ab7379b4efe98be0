-- Two monitors on one walk, in any form of the event step.
-- Assumes nothing.
pub mod Monitors
