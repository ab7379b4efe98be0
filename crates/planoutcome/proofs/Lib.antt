-- What a caller of planning has, and the bounds of the counts.
-- Assumes nothing.
pub mod CountLaws
pub mod PlanAfterLaws
