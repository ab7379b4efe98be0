-- What the parts of the call for an expression ask and find.
-- Assumes nothing.
-- inner contracts
pub mod Inner
