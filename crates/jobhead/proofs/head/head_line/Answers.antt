-- `jobhead::head::head_line` meets its contract: nothing or no line, numbers outside their limits, or the numbers.
-- Assumes nothing.
use mathlib.Core.Path.{refl, sym, ◌∙◌}
use Rattle.std.proofs.lemmas.Result.{err_from_is_err_and}
use Rattle.refusal.proofs.RefusalLaws.{number_some}
use Rattle.jobhead.proofs.HeadLaws.{head_stop, head_fails, head_found}
use Rattle.jobhead.proofs.head.head_line.Goals as goal

pub returns-in_err-due_line : goal.returns-in_err-due_line
returns-in_err-due_line c =
    let e = err_from_is_err_and c.from_residual.result c.from_residual.ensures.1 in
    rw (e.1, e.2) (head_stop c.args.file.now c.in_err-due_line.ensures (number_some _))

pub returns-then-not-is_head : goal.returns-then-not-is_head
returns-then-not-is_head c =
    head_fails c.args.file.now c.in_ok-due_line.ensures refl refl (sym c.is_head.ensures ∙ c.if-not-is_head.true)

pub returns : goal.returns
returns c =
    head_found c.args.file.now c.in_ok-due_line.ensures refl refl (sym c.is_head.ensures ∙ c.if-not-is_head.false)
