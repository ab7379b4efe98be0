-- Laws of what the reader of an expression answers.
-- Assumes nothing.
pub mod AnswerLaws
