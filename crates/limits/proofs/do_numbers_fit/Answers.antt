-- `limits::do_numbers_fit` meets its contract: past the limits of S and A the final set decides.
-- Assumes nothing.
use native.Mathlib.Omega.{arith}
use Rattle.automaton.proofs.AutomatonLaws.{fit_rest}
use Rattle.limits.proofs.do_numbers_fit.Goals as goal

pub returns-then-symbols-le16 : goal.returns-then-symbols-le16
returns-then-symbols-le16 c =
    let x = c.args in
    fit_rest x.states x.symbols x.finals (omega arith) (omega arith) (omega arith) (omega arith)
