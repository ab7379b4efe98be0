-- Expressions, which texts spell them, their words, and the positions of their letters.
-- Assumes nothing.
pub mod Expression
pub mod Grammar
pub mod Positions
-- inner contracts
pub mod Stops
pub mod Masks
