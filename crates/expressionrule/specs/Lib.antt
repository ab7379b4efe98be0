-- The rule made from an expression, and what is said of it.
-- Assumes nothing.
pub mod ExpressionRule
pub mod ExpressionSay
-- inner contracts
pub mod Numbering
