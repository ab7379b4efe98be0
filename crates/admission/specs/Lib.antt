-- What every call on a job file begins with.
-- Assumes nothing.
pub mod Admission
-- inner contracts
pub mod Admitted
