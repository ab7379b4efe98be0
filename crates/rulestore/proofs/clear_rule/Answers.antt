-- `rulestore::clear_rule` meets its contract.
-- Invariant: the first k bytes of the part are zero, and nothing else differs.
-- Assumes nothing.
use Prim.Native.Nat.{◌+◌}
use mathlib.Core.Path.{refl}
use native.Mathlib.Nat.{not-suc-le-zero}
use native.Mathlib.Omega.{arith}
use borrow.Author.Rules.{rules}
use Rattle.buffer.specs.Layout.{rule_part, marks_part}
use Rattle.buffer.proofs.KeptLaws.{kept_none}
use Rattle.rulestore.proofs.RuleLaws.{bytes_more, part_more}
use Rattle.rulestore.proofs.clear_rule.Goals as goal

pub loop-k-init : goal.loop-k-init
loop-k-init c = (search rules, c.requires, kept_none c.args.work.now rule_part marks_part, λ j h. absurd (not-suc-le-zero h))

pub bounds-work-k : goal.bounds-work-k
bounds-work-k c = omega (arith, c.loop-k.invariant.2.long)

pub loop-k-preserved : goal.loop-k-preserved
loop-k-preserved c = let l = c.loop-k in (
  search rules,
  l.invariant.1,
  part_more c.args.work.now l.work rule_part marks_part (rule_part + l.k) 0 l.invariant.2 (omega arith) (omega arith),
  bytes_more l.work rule_part l.k 0 (λ j. 0) (omega (arith, l.invariant.2.long)) l.invariant.3 refl,
)

pub shape_of-work : goal.shape_of-work
shape_of-work c = c.loop-k.invariant.2.long

pub returns : goal.returns
returns c = let l = c.loop-k in record { here = λ j h. l.invariant.3 j (omega arith); kept = l.invariant.2 }
