-- `pricereader::read_prices` meets its contract.
-- Invariant: the lines of the first s symbols pass, and their prices stand in the list.
-- Assumes nothing.
use Prim.Native.Nat.{◌≤◌}
use Rattle.pricereader.proofs.ReadPricesLaws.{ReadSoFar}
use Rattle.pricereader.proofs.read_prices.Given as goal

abbrev pub invariant-loop-s : goal.invariant-loop-s
invariant-loop-s l = (l.s ≤ 16) × ReadSoFar l.file l.prices l.s
