-- Laws of the job file.
-- Assumes nothing.
pub mod WithinLaws
pub mod SpelledRules
pub mod SpelledNodes
pub mod SpelledEdges
pub mod SpelledFile
pub mod RefusalLaws
pub mod AlikeLaws
pub mod SpellableLaws
pub mod RuleLinesLaws
pub mod AnswerLaws
pub mod Longest
pub mod FileTrialsPass
pub mod ListingTrialsPass
pub mod ListingLength
pub mod ListingFits
