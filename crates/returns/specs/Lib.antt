-- What comes back in.
-- Assumes nothing.
pub mod CameBack
