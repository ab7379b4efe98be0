-- `nodereads::is_shadow` meets its contract: the byte of the kind is 1 at events alone.
-- Assumes nothing.
use mathlib.Core.Path.{◌≡◌, refl, ap, ◌∙◌}
use Prim.Native.Nat.{ℕ, zero, suc, ◌+◌, ◌*◌}
use native.Mathlib.Omega.{arith}
use lib.Dec.{eqb}
use lib.ListN.{get_or}
use borrow.Author.Tests.{ne_eqb}
use Rattle.laws.specs.Bytes.{number_at}
use Rattle.job.specs.Job.{kind_of}
use Rattle.buffer.specs.Views.{node_in}
use Rattle.job.specs.Job.{is_event}
use Rattle.nodereads.proofs.is_shadow.Goals as goal

-- the byte of a kind is 1 at events alone
event_byte : (k v : ℕ) → eqb k 1 ≡ is_event (kind_of k v)
event_byte zero v = refl
event_byte (suc zero) v = refl
event_byte (suc (suc zero)) v = refl
event_byte (suc (suc (suc k))) v = ne_eqb (suc (suc (suc k))) 1 (λ e. absurd (omega arith))

pub returns : goal.returns
unfolding node_in
returns c =
    let w = c.args.work.now in
    let n = c.args.n in
    ap (λ (k : ℕ). eqb k 1) c.kind_at.ensures ∙ event_byte (get_or w (n * 8 + 6) 0) (number_at 2 w (n * 8))
