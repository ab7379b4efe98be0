-- `rulestore::are_below` meets its contract.
-- Invariant: the first c next states are below S.
-- Assumes nothing.
use Prim.Native.Nat.{ℕ, ◌+◌}
use mathlib.Core.Path.{sym}
use native.Mathlib.Omega.{arith}
use borrow.Author.Rules.{rules}
use borrow.Author.Tests.{lt-ltb, le-ltb}
use lib.Dec.{ltb}
use lib.ListN.{get_or}
use Rattle.laws.proofs.Bounded.{all_none, all_more, all_end, all_fails}
use Rattle.rulestore.proofs.are_below.Goals as goal

pub loop-c-init : goal.loop-c-init
loop-c-init c = (search rules, all_none _)

pub returns-then-states-numbers : goal.returns-then-states-numbers
returns-then-states-numbers c = let x = c.args in
    sym (all_fails x.symbols (λ (k : ℕ). ltb (get_or x.numbers.now (k + 2) 0) x.states) c.loop-c.c (omega arith)
    (le-ltb _ _ c.if-states-numbers.true))

pub loop-c-preserved : goal.loop-c-preserved
loop-c-preserved c = let x = c.args in (
  search rules,
  all_more c.loop-c.c (λ (k : ℕ). ltb (get_or x.numbers.now (k + 2) 0) x.states) c.loop-c.invariant.1
      (lt-ltb _ _ c.if-states-numbers.false),
)

pub returns : goal.returns
returns c = sym (all_end _ _ _ c.loop-c.invariant.1 (omega arith))
