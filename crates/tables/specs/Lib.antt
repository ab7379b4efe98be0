-- Definitions of rows of pairs, of the tables of the work buffer, and of the job in it.
-- Assumes nothing.
pub mod Rows
pub mod Tables
pub mod Held
pub mod Sixteen
