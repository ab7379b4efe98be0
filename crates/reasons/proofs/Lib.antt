-- The laws that other crates cite.
-- Assumes nothing.
pub mod ReasonsLaws
