-- Laws of admission, and of each way out of a call.
-- Assumes nothing.
pub mod EdgeIndexLaws
pub mod JobHeldLaws
pub mod AnswerReadLaws
pub mod AdmissionLaws
pub mod CallLaws
