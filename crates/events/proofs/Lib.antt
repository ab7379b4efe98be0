-- The laws that other crates cite.
-- Assumes nothing.
pub mod MonitorLaws
pub mod FormLaws
pub mod AnswerLaws
pub mod RunLaws
