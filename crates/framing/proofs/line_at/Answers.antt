-- `framing::line_at` meets its contract: a part from `at` to `at + len` has `len` bytes.
-- Assumes nothing.
use Prim.Native.Nat.{◌+◌, ◌-◌}
use mathlib.Core.Path.{◌≡◌}
use native.Mathlib.Omega.{arith}
use Rattle.framing.proofs.line_at.Goals as goal

pub returns : goal.returns
returns c =
    let x = c.args in
    let e : x.at + x.len - x.at ≡ x.len = omega arith in
    rw e
