-- The laws that the proofs of the functions cite.
-- Assumes nothing.
pub mod Complement
pub mod SetLaws
pub mod RowLaws
pub mod JobKeptLaws
pub mod KeptLaws
pub mod TableLaws
pub mod SixteenLaws
