-- What the numbering of states answers: inner contracts.
-- Assumes nothing.
pub mod Inner
