-- `classreturns::class_returns` meets its contract: without a call that may come back in nothing is to be done; elsewhere the pairs before the
-- entries are joined at the calls, and then the after words that lead to a call at the exits.
-- Assumes nothing.
use mathlib.Core.Path.{sym, ◌∙◌}
use native.Mathlib.Omega.{arith}
use Rattle.buffer.proofs.ClassRowLaws.{apart_left_small}
use Rattle.classreturns.proofs.ReturnLaws.{returns_none, returns_joined}
use Rattle.classreturns.proofs.class_returns.Goals as goal

pub overflow_add-result : goal.overflow_add-result
overflow_add-result c =
    let one = c.join_calls-grown.ensures in
    let two = c.join_exits.ensures in
    omega (arith, one.left, two.left, apart_left_small c.args.work.now)

pub returns-then-any_reentrant : goal.returns-then-any_reentrant
returns-then-any_reentrant c =
    let a = c.args in
    let entries = c.entry_rows-entries in
    let one = c.join_calls-grown in
    let calls = c.call_rows-calls in
    let two = c.join_exits in
    returns_joined a.table.now a.finals a.states a.nodes a.work.now one.new.work two.new.work entries.result
    calls.result one.result two.result c.requires
    entries.ensures one.ensures calls.ensures two.ensures

pub returns : goal.returns
returns c =
    let a = c.args in
    returns_none a.table.now a.finals a.states a.nodes a.work.now (sym c.any_reentrant.ensures ∙ c.if-any_reentrant.false)
