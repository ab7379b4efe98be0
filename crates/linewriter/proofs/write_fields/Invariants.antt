-- `linewriter::write_fields` meets its contract.
-- Invariant: the first k fields are stored, and storing the others leaves what storing all leaves.
-- Assumes nothing.
use Rattle.linewriter.proofs.WriteLaws.{Stored}
use Rattle.linewriter.proofs.write_fields.Given as goal

abbrev pub invariant-loop-k : goal.invariant-loop-k
invariant-loop-k l = Stored l.initial.out l.out l.at l.numbers l.k
