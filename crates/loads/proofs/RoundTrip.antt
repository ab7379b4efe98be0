-- What `write16` and `write64` leave is what `read16` and `read64` give.
-- Assumes nothing.
use Rattle.laws.specs.Bytes.{ReadsBack}
use Rattle.laws.proofs.Bytes.{number_put}

-- a number of 16 bits
pub read_written16 : ReadsBack 2
read_written16 = number_put 2

-- a number of 64 bits
pub read_written64 : ReadsBack 8
read_written64 = number_put 8
