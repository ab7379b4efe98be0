-- The theorem and the laws under it.
-- Assumes nothing.
pub mod PlanningLaws
pub mod CallsLaws
pub mod RuleLaws
pub mod Promise
pub mod RowsLaws
pub mod ExpressionLaws
