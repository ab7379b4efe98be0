-- `nodereads::call_set` meets its contract: a kind from 2 on is a call, of either sort, and its value is the set.
-- Assumes nothing.
use mathlib.Core.Path.{◌≡◌, refl, ◌∙◌}
use Prim.Native.Nat.{ℕ, zero, suc, ◌+◌, ◌*◌, ◌≤◌, ◌<◌}
use native.Mathlib.Omega.{arith}
use lib.ListN.{get_or}
use Rattle.laws.specs.Bytes.{number_at}
use Rattle.job.specs.Job.{kind_of}
use Rattle.buffer.specs.Views.{node_in}
use Rattle.job.specs.Job.{call_set}
use Rattle.nodereads.proofs.call_set.Goals as goal

-- below 2 no set
call_none : (k v : ℕ) → k < 2 → 0 ≡ call_set (kind_of k v)
call_none zero v h = refl
call_none (suc zero) v h = refl
call_none (suc (suc k)) v h = absurd (omega arith)

-- from 2 on the value
call_value : (k v : ℕ) → 2 ≤ k → v ≡ call_set (kind_of k v)
call_value zero v h = absurd (omega arith)
call_value (suc zero) v h = absurd (omega arith)
call_value (suc (suc zero)) v h = refl
call_value (suc (suc (suc k))) v h = refl

pub returns-then-kind_at-lt2 : goal.returns-then-kind_at-lt2
unfolding node_in
returns-then-kind_at-lt2 c =
    let w = c.args.work.now in
    let n = c.args.n in
    call_none (get_or w (n * 8 + 6) 0) (number_at 2 w (n * 8)) (rw c.kind_at.ensures at c.if-kind_at-lt2.true)

pub returns : goal.returns
unfolding node_in
returns c =
    let w = c.args.work.now in
    let n = c.args.n in
    c.read16.ensures ∙ call_value (get_or w (n * 8 + 6) 0) (number_at 2 w (n * 8)) (rw c.kind_at.ensures at c.if-kind_at-lt2.false)
