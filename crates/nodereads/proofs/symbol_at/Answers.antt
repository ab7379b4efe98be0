-- `nodereads::symbol_at` meets its contract: the value of an event is its symbol.
-- Assumes nothing.
use mathlib.Core.Path.{◌≡◌, refl, ap, ◌∙◌}
use Prim.Native.Nat.{ℕ, zero, suc, ◌+◌, ◌*◌, ◌%◌}
use native.Mathlib.Omega.{arith}
use lib.ListN.{get_or}
use Rattle.laws.specs.Bytes.{number_at}
use Rattle.job.specs.Job.{point, point_of}
use Rattle.job.proofs.KindLaws.{point_some, point_same}
use Rattle.job.specs.Job.{kind_of}
use Rattle.buffer.specs.Views.{node_in}
use Rattle.nodereads.proofs.symbol_at.Goals as goal

-- the value of an event is its symbol
event_value : (k v a : ℕ) → point_of (kind_of k v) ≡ point a → v ≡ a
event_value zero v a e = absurd (point_some e refl)
event_value (suc zero) v a e = point_same e
event_value (suc (suc zero)) v a e = absurd (point_some e refl)
event_value (suc (suc (suc k))) v a e = absurd (point_some e refl)

pub returns : goal.returns
unfolding node_in
returns c =
    let w = c.args.work.now in
    let n = c.args.n in (
      omega arith,
      λ a e. ap (λ (x : ℕ). x % 16) (c.read16.ensures ∙ event_value (get_or w (n * 8 + 6) 0) (number_at 2 w (n * 8)) a e),
    )
