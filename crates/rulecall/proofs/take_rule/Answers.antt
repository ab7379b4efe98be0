-- `rulecall::take_rule` meets its contract: a refusal of admission, 13 for a rule buffer of another length, or the rule of the job that was
-- admitted; what is left in the work buffer is cleared.
-- Assumes nothing.
use Rattle.std.proofs.lemmas.Result.{err_from_is_err_and}
use mathlib.Core.Path.{refl, ◌∙◌}
use native.Mathlib.Omega.{arith}
use lib.ListN.{length}
use Rattle.refusal.proofs.RefusalLaws.{number_some}
use Rattle.admission.proofs.CallLaws.{admitted_alone}
use Rattle.rulecall.proofs.CallLaws.{rule_refused, rule_other_length, rule_handed_over}
use Rattle.rulecall.proofs.take_rule.Goals as goal

pub returns-in_err-head : goal.returns-in_err-head
returns-in_err-head c =
    let x = c.args in
    let p = err_from_is_err_and c.from_residual.result c.from_residual.ensures.1 in
    rw (p.1, p.2)
    (rule_refused x.file.now x.work.now x.rule.now _ _
    (admitted_alone x.file.now (length x.work.now) c.in_err-head.ensures) (number_some _))

pub clear-requires : goal.clear-requires
clear-requires c = (c.in_ok-head.ensures.job refl).usable.long

pub returns-then-rule-ne-ROOM : goal.returns-then-rule-ne-ROOM
returns-then-rule-ne-ROOM c =
    let x = c.args in
    let ends =
    rule_other_length x.file.now x.work.now x.rule.now _ _
    (admitted_alone x.file.now (length x.work.now) c.in_ok-head.ensures) refl
    (λ e. omega (arith, e, c.if-rule-ne-ROOM.true)) in
    (ends.0, c.clear.ensures ∙ ends.1, ends.2)

pub copy_rule-requires : goal.copy_rule-requires
copy_rule-requires c =
    ((c.in_ok-head.ensures.job refl).usable.long, omega (arith, c.if-rule-ne-ROOM.false))

pub clear-requires-2 : goal.clear-requires-2
clear-requires-2 c =
    (c.in_ok-head.ensures.job refl).usable.long

pub returns : goal.returns
returns c =
    let x = c.args in
    let ends =
    rule_handed_over x.file.now x.work.now x.rule.now _ _
    (admitted_alone x.file.now (length x.work.now) c.in_ok-head.ensures) refl (omega (arith, c.if-rule-ne-ROOM.false)) _
    c.copy_rule.ensures in
    (ends.0, c.clear-2.ensures ∙ ends.1, ends.2)
