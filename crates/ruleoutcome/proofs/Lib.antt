-- What a caller of the rule call has, and what its proofs cite.
-- Assumes nothing.
pub mod CallTrialsPass
pub mod RuleLaws
pub mod RuleSays
