-- Laws of expressions.
-- Assumes nothing.
pub mod Chains
pub mod Linear
pub mod Unique
pub mod Reach
pub mod MaskLaws
pub mod SetLaws
pub mod GrammarLaws
pub mod NoneLaws
pub mod Reader
