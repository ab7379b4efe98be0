-- The rule of a job as a call.
-- Assumes nothing.
pub mod RuleCall
pub mod RuleSays
pub mod CallTrials
