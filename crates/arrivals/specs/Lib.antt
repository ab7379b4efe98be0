-- The arrivals index beside the edges: what it is, and what the calls that keep it answer and leave.
-- Assumes nothing.
pub mod Arrivals
pub mod ArrivalsSay
pub mod Shifts
pub mod Placed
