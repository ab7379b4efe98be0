-- The third promise.
-- Assumes nothing.
pub mod Promise
pub mod RowsTied
pub mod ExpressionTied
