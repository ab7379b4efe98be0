-- `fields::digits_in` meets its contract.
-- Invariant: v is the value of the columns before i, which are digits, so it is below 10 to their number.
-- Assumes nothing.
use Rattle.std.proofs.Common.{◌≡◌, ◌+◌, ◌-◌, ◌^◌, ◌<◌}
use lib.Seq.{slice}
use Rattle.lines.specs.Line.{digits_of}
use Rattle.fields.proofs.digits_in.Given as goal

abbrev pub invariant-loop-i : goal.invariant-loop-i
invariant-loop-i l =
    (l.v < 10 ^ (l.i - l.from))
    × (digits_of 0 (slice (l.at + l.from) (l.at + 6) l.line) ≡ digits_of l.v (slice (l.at + l.i) (l.at + 6) l.line))
