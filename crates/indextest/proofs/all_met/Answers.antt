-- `indextest::all_met` meets its contract: the cursors are compared with the starts after the first.
-- Assumes nothing.
use mathlib.Core.Path.{◌∙◌}
use Prim.Native.Nat.{◌+◌, ◌-◌}
use native.Mathlib.Omega.{arith}
use borrow.Author.Rules.{rules}
use Rattle.indextest.proofs.FreshLaws.{meets_parts}
use Rattle.indextest.proofs.all_met.Goals as goal

pub returns-then-starts-eq0 : goal.returns-then-starts-eq0
returns-then-starts-eq0 c =
    let x = c.args in
    c.eq.ensures
    ∙ meets_parts x.nodes (x.nodes + 1 - 1) x.starts.now x.next.now (omega arith) (search rules) (search rules) c.if-starts-eq0.true
