-- A row past a node.
-- Assumes nothing.
pub mod Past
