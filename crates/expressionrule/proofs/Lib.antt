-- Laws of the rule made from an expression.
-- Assumes nothing.
pub mod RuleLaws
pub mod GrowLaws
pub mod DoneLaws
pub mod Search
pub mod MadeBy
pub mod Pigeonhole
pub mod OneRule
pub mod OneAnswer
pub mod ExpressionServe
