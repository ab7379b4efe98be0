-- `ruletable::row_of` meets its contract: each cell is its byte from the row's start on.
-- Assumes nothing.
use Prim.Native.Nat.{◌+◌}
use mathlib.Core.Path.{◌∙◌}
use native.Mathlib.Omega.{arith}
use lib.ListN.{get_or}
use Rattle.std.proofs.lemmas.List.{get_or-take, get_or-drop}
use Rattle.laws.proofs.Bounded.{fill_done}
use Rattle.automaton.specs.Table.{row_of}
use Rattle.ruletable.proofs.row_of.Goals as goal

pub returns : goal.returns
unfolding row_of
returns c =
    let x = c.args in
    let copied = c.copy_from_slice.ensures in
    fill_done c.copy_from_slice.new.self 16 (λ k. get_or x.bytes.now (x.start + k) 0) 0 copied.len
    (λ k h. rw copied.after (get_or-take _ _ k 0 (omega arith) ∙ get_or-drop x.start x.bytes.now k 0))
