-- `daycost::volume_line` meets its contract: nothing or no line, another place, a number above the limit, or the number.
-- Assumes nothing.
use mathlib.Core.Path.{sym, ◌∙◌}
use native.Mathlib.Omega.{arith}
use Prim.Native.Nat.{◌*◌}
use lib.ListN.{drop}
use Rattle.numberedline.proofs.NumberedLineLaws.{number_stop, number_elsewhere, number_above, number_passes}
use Rattle.daycost.proofs.volume_line.Goals as goal

pub returns-in_err-ok : goal.returns-in_err-ok
returns-in_err-ok c =
    let x = c.args in
    c.from_residual.ensures
    ∙ number_stop 86 999999 x.n (drop (x.n * 14) x.volumes.now) c.due_line.result c.due_line.ensures (sym c.in_err-ok.ensures.value)

pub returns-then-numbers-n : goal.returns-then-numbers-n
returns-then-numbers-n c =
    let x = c.args in
    number_elsewhere 86 999999 x.n (drop (x.n * 14) x.volumes.now) c.due_line.result c.due_line.ensures _
    (sym c.in_ok-ok.ensures.value) c.if-numbers-n.true

pub returns-then-numbers-gt999999 : goal.returns-then-numbers-gt999999
returns-then-numbers-gt999999 c =
    let x = c.args in
    number_above 86 999999 x.n (drop (x.n * 14) x.volumes.now) c.due_line.result c.due_line.ensures _
    (sym c.in_ok-ok.ensures.value) c.if-numbers-gt999999.true

pub returns : goal.returns
returns c =
    let x = c.args in
    number_passes 86 999999 x.n (drop (x.n * 14) x.volumes.now) c.due_line.result c.due_line.ensures _
    (sym c.in_ok-ok.ensures.value) c.if-numbers-n.false (omega arith)
