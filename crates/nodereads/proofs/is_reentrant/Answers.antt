-- `nodereads::is_reentrant` meets its contract: the byte of the kind is above 2 at calls that may come back in alone.
-- Assumes nothing.
use mathlib.Core.Path.{◌≡◌, refl, ap, ◌∙◌}
use Prim.Native.Nat.{ℕ, zero, suc, ◌+◌, ◌*◌}
use native.Mathlib.Omega.{arith}
use lib.Dec.{ltb}
use lib.ListN.{get_or}
use borrow.Author.Tests.{lt-ltb}
use Rattle.laws.specs.Bytes.{number_at}
use Rattle.job.specs.Job.{kind_of, is_reentrant}
use Rattle.buffer.specs.Views.{node_in}
use Rattle.nodereads.proofs.is_reentrant.Goals as goal

-- the byte of a kind is above 2 at those alone
reentrant_byte : (k v : ℕ) → ltb 2 k ≡ is_reentrant (kind_of k v)
reentrant_byte zero v = refl
reentrant_byte (suc zero) v = refl
reentrant_byte (suc (suc zero)) v = refl
reentrant_byte (suc (suc (suc k))) v = lt-ltb 2 (suc (suc (suc k))) (omega arith)

pub returns : goal.returns
unfolding node_in
returns c =
    let w = c.args.work.now in
    let n = c.args.n in
    ap (λ (k : ℕ). ltb 2 k) c.kind_at.ensures ∙ reentrant_byte (get_or w (n * 8 + 6) 0) (number_at 2 w (n * 8))
