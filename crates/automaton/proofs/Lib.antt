-- The laws that other crates cite.
-- Assumes nothing.
pub mod AutomatonLaws
pub mod TableLaws
pub mod RuleBytesLaws
pub mod MadeLaws
