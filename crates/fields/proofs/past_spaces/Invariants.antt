-- `fields::past_spaces` meets its contract.
-- Invariant: the columns before i are spaces, so the field is what the columns from i on hold.
-- Assumes nothing.
use Rattle.std.proofs.Common.{◌≡◌, ◌+◌}
use lib.Seq.{slice}
use Rattle.lines.specs.Line.{field_of}
use Rattle.fields.proofs.past_spaces.Given as goal

abbrev pub invariant-loop-i : goal.invariant-loop-i
invariant-loop-i l = field_of (slice (l.at + 0) (l.at + 6) l.line) ≡ field_of (slice (l.at + l.i) (l.at + 6) l.line)
