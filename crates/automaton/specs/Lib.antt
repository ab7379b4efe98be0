-- The rule, its table, and rules that calls make.
-- Assumes nothing.
pub mod Automaton
pub mod Table
pub mod Made
