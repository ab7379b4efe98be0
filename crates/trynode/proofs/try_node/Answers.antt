-- `trynode::try_node` meets its contract: a node that is not enabled is left; else it goes or is put back as the search says.
-- Assumes nothing.
use mathlib.Core.Path.{sym, ◌∙◌}
use Prim.Native.Nat.{◌+◌}
use native.Mathlib.Omega.{arith}
use lib.ListN.{length-set}
use Rattle.buffer.specs.Layout.{plan_part}
use Rattle.passes.proofs.TryLaws.{stored_usable, try_disabled, some_enabled, try_removed, try_needed}
use Rattle.trynode.proofs.try_node.Goals as goal

pub returns-then-not-is_enabled : goal.returns-then-not-is_enabled
returns-then-not-is_enabled c =
    let p = c.requires in
    try_disabled p.0 p.1.0 p.1.1 (sym c.is_enabled.ensures ∙ c.if-not-is_enabled.true)

pub overflow_sub-left : goal.overflow_sub-left
overflow_sub-left c =
    let p = c.requires in
    let enabled = sym c.is_enabled.ensures ∙ c.if-not-is_enabled.false in
    some_enabled p.0 p.1.0 p.1.1 enabled

pub is_faithful-requires : goal.is_faithful-requires
is_faithful-requires c = let p = c.requires in stored_usable p.0 p.1.0 _

pub shape_of-work-then-is_faithful : goal.shape_of-work-then-is_faithful
shape_of-work-then-is_faithful c =
    let a = c.args in
    c.is_faithful.ensures.kept.long ∙ length-set a.work.now (plan_part + a.n) _

pub returns-then-is_faithful : goal.returns-then-is_faithful
returns-then-is_faithful c =
    let p = c.requires in
    let enabled = sym c.is_enabled.ensures ∙ c.if-not-is_enabled.false in
    try_removed p.0 p.1.0 p.1.1 enabled c.is_faithful.ensures
    (omega (arith, some_enabled p.0 p.1.0 p.1.1 enabled)) c.if-is_faithful.true

pub bounds-work-n-2 : goal.bounds-work-n-2
bounds-work-n-2 c =
    let a = c.args in
    let p = c.requires in
    let kept = c.is_faithful.ensures.kept in
    omega (arith, kept.long ∙ length-set a.work.now (plan_part + a.n) _, p.0, p.1.0.long, p.1.0.few_nodes)

pub shape_of-work : goal.shape_of-work
shape_of-work c =
    let a = c.args in
    let f = c.is_faithful in
    length-set f.new.work (plan_part + a.n) _ ∙ f.ensures.kept.long ∙ length-set a.work.now (plan_part + a.n) _

pub returns : goal.returns
returns c =
    let p = c.requires in
    let enabled = sym c.is_enabled.ensures ∙ c.if-not-is_enabled.false in
    try_needed p.0 p.1.0 p.1.1 enabled c.is_faithful.ensures c.if-is_faithful.false
