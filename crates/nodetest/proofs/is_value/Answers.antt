-- `nodetest::is_value` meets its contract, by cases on the kind.
-- Assumes nothing.
use mathlib.Core.Path.{sym}
use native.Mathlib.Omega.{arith}
use Rattle.nodetest.proofs.NodeTestLaws.{value_set, value_none}
use Rattle.nodetest.proofs.is_value.Goals as goal

pub returns-then-kind-eq0 : goal.returns-then-kind-eq0
returns-then-kind-eq0 c = rw c.if-kind-eq0.true

pub returns-then-kind-eq1 : goal.returns-then-kind-eq1
returns-then-kind-eq1 c = rw c.if-kind-eq1.true

pub returns-then-kind-lt4 : goal.returns-then-kind-lt4
returns-then-kind-lt4 c = let x = c.args in
    value_set x.symbols x.kind x.value c.if-kind-eq0.false c.if-kind-eq1.false (omega (arith, c.if-kind-lt4.true))

pub returns : goal.returns
returns c = let x = c.args in
    sym (value_none x.symbols x.kind x.value c.if-kind-lt4.false)
