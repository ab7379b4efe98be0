-- Planning as a call.
-- Assumes nothing.
pub mod PlanCall
pub mod PlanSays
