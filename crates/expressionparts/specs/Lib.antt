-- What the reader of an expression answers: inner contracts.
-- Assumes nothing.
pub mod Reading
