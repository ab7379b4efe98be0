-- `expressioncall::take_expression` meets its contract: 13 for a rule buffer of another length, 20 for A, for the text's length or where the text
-- spells nothing with the first A letters, or the rule of what was read, or 21.
-- Assumes nothing.
use Prim.Native.Nat.{ℕ, ◌≤◌}
use native.Mathlib.Omega.{arith}
use lib.ListN.{length, replicate, length-replicate}
use Rattle.expressionrule.specs.ExpressionRule.{no_symbol, many_symbols, too_long}
use Rattle.refusal.specs.Refusal.{said}
use Rattle.expressioncall.proofs.CallLaws.{takes_other_length, takes_outside, takes_nothing, takes_read}
use Rattle.expressioncall.proofs.take_expression.Goals as goal
use Rattle.expressioncall.proofs.take_expression.Goals.{then-symbols-lt1-via-then-symbols-lt1, then-symbols-lt1-via-else-symbols-lt1+then-symbols-gt-MOST, then-symbols-lt1-via-else-symbols-lt1+else-symbols-gt-MOST+then-text-gt-LONGEST}

pub returns-then-rule-ne-ROOM : goal.returns-then-rule-ne-ROOM
returns-then-rule-ne-ROOM c =
    let x = c.args in
    takes_other_length x.text.now x.symbols x.rule.now (λ e. omega (arith, e, c.if-rule-ne-ROOM.true))

pub returns-then-symbols-lt1 : goal.returns-then-symbols-lt1
returns-then-symbols-lt1 c =
    let x = c.args in
    takes_outside x.text.now x.symbols x.rule.now (omega (arith, c.if-rule-ne-ROOM.false))
    (elim c.then-symbols-lt1.branch [
      | then-symbols-lt1-via-then-symbols-lt1 w ↦ no_symbol (omega arith)
      | then-symbols-lt1-via-else-symbols-lt1+then-symbols-gt-MOST w ↦ many_symbols (omega arith)
      | then-symbols-lt1-via-else-symbols-lt1+else-symbols-gt-MOST+then-text-gt-LONGEST w ↦ too_long (omega arith)
    ])

pub returns-in-Some : goal.returns-in-Some
returns-in-Some c =
    let x = c.args in
    let short : length x.text.now ≤ 64 = omega (arith, c.if-text-gt-LONGEST.false) in
    let (shown, ends) = c.in-Some.ensures in
    takes_read x.text.now x.symbols x.rule.now (omega (arith, c.if-rule-ne-ROOM.false))
    (omega (arith, c.if-symbols-lt1.false)) (omega (arith, c.if-symbols-gt-MOST.false)) short (replicate 64 0) c.read_text.new.follow
    c.in-Some.d (omega (arith, short, shown.long, length-replicate {A = ℕ} 64 0)) shown ends _ (said c.number_rule.result)
    c.number_rule.ensures

pub returns-in-None : goal.returns-in-None
returns-in-None c =
    let x = c.args in
    takes_nothing x.text.now x.symbols x.rule.now (omega (arith, c.if-rule-ne-ROOM.false))
    (omega (arith, c.if-symbols-lt1.false)) (omega (arith, c.if-symbols-gt-MOST.false)) (omega (arith, c.if-text-gt-LONGEST.false))
    c.in-None.ensures
