-- Rules written as rows, and what is said of them.
-- Assumes nothing.
pub mod RuleRows
pub mod RowsSay
pub mod RowsAlike
-- inner contracts
pub mod Inner
