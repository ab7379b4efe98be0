-- Laws of what the work buffer holds, and of what stores leave of it.
-- Assumes nothing.
pub mod KeptLaws
pub mod ViewLaws
pub mod ClearedLaws
pub mod NumberTableLaws
pub mod ClassRowLaws
