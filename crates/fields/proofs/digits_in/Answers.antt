-- `fields::digits_in` meets its contract.
-- Invariant: v is the value of the columns before i, which are digits, so it is below 10 to their number.
-- Assumes nothing.
use Rattle.std.proofs.Common.{refl, arith}
use Rattle.lines.proofs.FieldLaws.{digits_none, digits_more, digits_end, digit_lt, digits_few, few_none}
use Rattle.fields.proofs.digits_in.Goals as goal

pub loop-i-init : goal.loop-i-init
loop-i-init c = (few_none c.args.from, refl)

pub returns-then-d-gt9 : goal.returns-then-d-gt9
returns-then-d-gt9 c =
    let l = c.loop-i in
    let x = c.args in
    let d = c.digit-d in
    digits_none x.line.now x.at l.i l.v d.result _ (omega arith) (omega arith) d.ensures.0 d.ensures.1 l.invariant.1
    c.if-d-gt9.true

pub overflow_mul-v : goal.overflow_mul-v
overflow_mul-v c =
    let l = c.loop-i in
    let x = c.args in
    omega (arith, digits_few l.v l.i x.from (omega arith) l.invariant.0)

pub overflow_add-v : goal.overflow_add-v
overflow_add-v c =
    let l = c.loop-i in
    let x = c.args in
    omega (arith, digits_few l.v l.i x.from (omega arith) l.invariant.0)

pub loop-i-preserved : goal.loop-i-preserved
loop-i-preserved c =
    let l = c.loop-i in
    let x = c.args in
    let d = c.digit-d in (
      digit_lt l.v d.result l.i x.from (omega arith) l.invariant.0 (omega arith),
      digits_more x.line.now x.at l.i l.v d.result _ (omega arith) (omega arith) d.ensures.0 d.ensures.1 l.invariant.1
          (omega arith),
    )

pub returns : goal.returns
returns c =
    let l = c.loop-i in
    let x = c.args in
    rw c.from.ensures (digits_end x.line.now x.at l.i l.v _ (omega arith) l.invariant.1)
