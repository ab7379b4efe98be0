-- That the trials pass.
-- Assumes nothing.
pub mod ExpressionTrialsPass
