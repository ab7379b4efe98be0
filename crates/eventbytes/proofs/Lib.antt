-- The laws that other crates cite.
-- Assumes nothing.
pub mod EventLaws
pub mod FormLaws
