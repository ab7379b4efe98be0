-- `dapohiru::check::dapohiru_check` meets its contract: the number of the verdict, and the buffer as the plan check left it.
-- Assumes nothing.
use Rattle.std.specs.Prelude.{Result, ℕ}
use mathlib.Core.Path.{ap, ◌∙◌}
use Rattle.reasons.proofs.ReasonsLaws.{said_by_reason}
use Rattle.checking.specs.Checking.{verdict_number, work_left}
use Rattle.dapohiru.proofs.check.dapohiru_check.Goals as goal
use Rattle.checking.specs.declared.check.Verdict.{Verdict}

pub returns : goal.returns
returns c =
    let r = c.check_plan in
    let work = c.args.work.now in
    (c.of_verdict.ensures ∙ ap verdict_number (said_by_reason r.result ∙ r.ensures.0), r.ensures.1 ∙ ap (λ (v : Result Verdict ℕ). work_left v work) r.ensures.0)
