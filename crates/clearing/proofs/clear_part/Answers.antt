-- `clearing::clear_part` meets its contract: the part is filled with zeros, and the bytes before and after it stay.
-- Assumes nothing.
use mathlib.Core.Path.{◌≡◌, ap, ◌∙◌}
use mathlib.Core.List.{List}
use Prim.Native.Nat.{ℕ, ◌-◌, ◌≤◌}
use native.Mathlib.Omega.{arith}
use lib.ListN.{length, take, drop, replicate, length-take, length-drop}
use borrow.Rule.Slice.PartMut.{put_mid}
use Rattle.std.proofs.lemmas.Grind.{common_steps}
use Rattle.buffer.specs.Kept.{Zeroed}
use Rattle.clearing.proofs.clear_part.Goals as goal

-- zeros in the place of a part
filled
    : (l part : List ℕ) (i j : ℕ) → i ≤ j → j ≤ length l → part ≡ replicate (j - i) 0
    → Zeroed l (put_mid i (j - i) l part) i j
filled l part i j order within zeros = rw zeros (record {
  kept = record { long = grind (arith, common_steps); outside = λ k outside. grind (arith, common_steps) };
  zeros = λ k from below. grind (arith, common_steps);
})

pub returns : goal.returns
returns c =
    let a = c.args in
    let pre = c.requires in
    let long : length (take (a.to - a.from) (drop a.from a.work.now)) ≡ a.to - a.from = simp (length-take, length-drop) (omega arith) in
    filled a.work.now _ a.from a.to pre.1 pre.0 (c.fill.ensures.after (λ y e. e) ∙ ap (λ (n : ℕ). replicate n 0) long)
