-- `raising::raise` meets its contract: below the ceiling the total rises, at it the total stays.
-- Assumes nothing.
use mathlib.Core.Logic.{by_cases}
use native.Mathlib.Decide.{dec_lt}
use native.Mathlib.Omega.{arith}
use Rattle.events.specs.Monitor.{max_total}
use Rattle.events.proofs.MonitorLaws.{raised_rises, raised_stays}
use Rattle.raising.proofs.raise.Goals as goal

pub returns : goal.returns
returns c =
    let n = c.args.alarms in
    by_cases (dec_lt n max_total) (λ below. omega (arith, raised_rises n below)) (λ past. omega (arith, raised_stays n (omega arith)))
