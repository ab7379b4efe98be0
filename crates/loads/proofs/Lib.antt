-- The theorems on numbers in bytes that no one function's contract says.
-- Assumes nothing.
pub mod RoundTrip
