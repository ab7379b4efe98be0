-- Files alike get the same answer of every call.
-- Assumes nothing.
pub mod SameAnswers
