-- Trials of expressions.
-- Assumes nothing.
pub mod ExpressionTrials
