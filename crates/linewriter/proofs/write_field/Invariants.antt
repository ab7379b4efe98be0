-- `linewriter::write_field` meets its contract.
-- Invariant: the columns from k on, of the five before the last, are stored, and the other k are due, of the digits that are left.
-- Assumes nothing.
use Rattle.linewriter.proofs.WriteLaws.{Columns}
use Rattle.linewriter.proofs.write_field.Given as goal

abbrev pub invariant-loop-k : goal.invariant-loop-k
invariant-loop-k l = Columns l.initial.out l.out l.at l.value l.rest l.k
