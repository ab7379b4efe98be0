-- `fields::past_spaces` meets its contract.
-- Invariant: the columns before i are spaces, so the field is what the columns from i on hold.
-- Assumes nothing.
use Rattle.std.proofs.Common.{◌≡◌, ℕ, ◌+◌, subst, arith}
use lib.Seq.{slice}
use Rattle.lines.specs.Line.{field_of}
use Rattle.lines.proofs.FieldLaws.{past_space}
use Rattle.fields.proofs.past_spaces.Goals as goal

pub returns-then-line-at-ne32 : goal.returns-then-line-at-ne32
returns-then-line-at-ne32 c =
    record { within = omega arith; same = c.loop-i.invariant; no_space = λ h. c.if-line-at-ne32.true }

pub loop-i-preserved : goal.loop-i-preserved
loop-i-preserved c =
    let l = c.loop-i in
    let x = c.args in
    past_space x.line.now x.at l.i (omega arith) (omega arith) c.if-line-at-ne32.false l.invariant

pub returns : goal.returns
returns c =
    let l = c.loop-i in
    let x = c.args in
    let six : l.i ≡ 6 = omega arith in
    record {
      within = omega arith;
      same =
          subst (λ (k : ℕ). field_of (slice (x.at + 0) (x.at + 6) x.line.now) ≡ field_of (slice (x.at + k) (x.at + 6) x.line.now)) six l.invariant;
      no_space = λ h. absurd (omega arith);
    }
