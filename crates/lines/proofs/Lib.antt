-- Laws of fields and lines.
-- Assumes nothing.
pub mod FieldLaws
pub mod LineLaws
pub mod LinesLaws
pub mod SpelledField
pub mod SpelledLine
pub mod SpelledLines
pub mod AlikeLaws
pub mod FieldTrialsPass
