-- `indextest::copy_starts` meets its contract.
-- Assumes nothing.
use mathlib.Core.Path.{ap, ◌∙◌}
use mathlib.Core.List.{List}
use Prim.Native.Nat.{ℕ}
use native.Mathlib.Omega.{arith}
use lib.ListN.{get_or, drop, get_or-append}
use lib.Seq.{length-take-le, get_or-take}
use Rattle.indextest.proofs.copy_starts.Goals as goal

pub returns : goal.returns
returns c =
    let x = c.args in
    let copied = c.copy_from_slice in
    let long = length-take-le x.nodes x.next.now (omega arith) in
    λ m h.
    get_or-append copied.new.self (drop x.nodes x.next.now) 0 m (omega (arith, copied.ensures.len))
    ∙ ap (λ (l : List ℕ). get_or l m 0) copied.ensures.after ∙ get_or-take x.nodes x.starts.now m 0 h
