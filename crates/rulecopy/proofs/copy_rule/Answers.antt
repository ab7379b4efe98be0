-- `rulecopy::copy_rule` meets its contract.
-- Invariant: the first i bytes of the rule buffer are copied.
-- Assumes nothing.
use mathlib.Core.Path.{refl}
use Prim.Native.Nat.{ℕ, ◌+◌}
use native.Mathlib.Nat.{not-suc-le-zero}
use native.Mathlib.Omega.{arith}
use lib.ListN.{get_or}
use borrow.Author.Rules.{rules}
use Rattle.laws.proofs.Bounded.{fill_more}
use Rattle.buffer.specs.Layout.{rule_part}
use Rattle.rulecopy.proofs.CopyLaws.{rule_copied}
use Rattle.rulecopy.proofs.copy_rule.Goals as goal

pub loop-i-init : goal.loop-i-init
loop-i-init c = (search rules, search rules, λ k h. absurd (not-suc-le-zero h))

pub loop-i-preserved : goal.loop-i-preserved
loop-i-preserved c =
    let x = c.args in
    let l = c.loop-i in (
      search rules,
      search rules,
      fill_more l.rule l.i (λ (k : ℕ). get_or x.work.now (rule_part + k) 0) _ 0
          (omega (arith, l.invariant.1, c.requires.1)) l.invariant.2 refl,
    )

pub shape_of-rule : goal.shape_of-rule
shape_of-rule c = c.loop-i.invariant.1

pub returns : goal.returns
returns c =
    let x = c.args in
    let p = c.requires in
    let l = c.loop-i in
    rule_copied x.work.now l.rule p.0 (omega (arith, l.invariant.1, p.1)) (λ k h. l.invariant.2 k (omega arith))
