-- `edgeplace::number_place` meets its contract: the numbers of the part below the one given come first.
-- Assumes nothing.
use mathlib.Core.Path.{◌≡◌, refl, ap, ◌∙◌}
use mathlib.Core.Bool.{Bool}
use Prim.Native.Nat.{ℕ, ◌+◌, ◌-◌, ◌<◌}
use native.Mathlib.Omega.{arith}
use lib.Dec.{ltb}
use lib.ListN.{length, get_or, drop, length-drop}
use lib.Seq.{length-take-le}
use Rattle.std.proofs.Common.{rules, of_calls}
use Rattle.std.proofs.lemmas.Grind.{get_or_default_zero}
use Rattle.std.proofs.lemmas.List.Edits.{get_or-between}
use Rattle.std.proofs.lemmas.List.Sorted.{IsPartitionPoint-from_clause}
use Rattle.std.specs.List.{between}
use Rattle.edgeplace.proofs.CutLaws.{parted, point_cut}
use Rattle.edgeplace.proofs.number_place.Goals as goal

pub returns : goal.returns
returns c =
    let x = c.args in
    let part = between x.first x.last x.list.now in
    let p : ℕ → Bool = λ y. ltb y x.number in
    let f : ℕ → Bool = λ i. ltb (get_or x.list.now i 0) x.number in
    let long = length-take-le (x.last - x.first) (drop x.first x.list.now) (omega (arith, length-drop x.first x.list.now)) in
    let all : x.first + length part ≡ x.last = omega arith in
    let same : (i d : ℕ) → i < length part → p (get_or part i d) ≡ f (x.first + i) = λ i d h.
    ap p (get_or-between x.list.now x.first x.last i d (omega arith) ∙ get_or_default_zero x.list.now (x.first + i) d (omega arith)) in
    let first = parted part p f x.first x.last all same c.requires.2 in
    let r = c.partition_point.result in
    point_cut part p f x.first x.last all same 0 r (x.first + r) refl c.partition_point.ensures.bound
    (IsPartitionPoint-from_clause p part r c.partition_point.ensures.partitioned first (λ a r g k. search (rules, of_calls)))
