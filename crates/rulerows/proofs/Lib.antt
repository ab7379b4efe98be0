-- Laws of rules written as rows.
-- Assumes nothing.
pub mod RowsLaws
pub mod TextLaws
pub mod RowsSays
pub mod RowsServe
pub mod RowsAlikeLaws
