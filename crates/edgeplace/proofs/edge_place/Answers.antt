-- `edgeplace::edge_place` meets its contract: the edges before the one given come first.
-- Assumes nothing.
use mathlib.Core.Path.{◌≡◌, ap, ◌∙◌}
use mathlib.Core.Bool.{Bool}
use mathlib.Core.List.{List, []}
use Prim.Native.Nat.{ℕ, ◌+◌, ◌<◌}
use native.Mathlib.Omega.{arith}
use lib.ListN.{length, get_or, take}
use Rattle.std.proofs.Common.{rules, of_calls}
use Rattle.std.proofs.lemmas.List.Sorted.{IsPartitionPoint-from_clause}
use Rattle.job.specs.Job.{edge}
use Rattle.arrivals.specs.Arrivals.{edge_at, is_before}
use Rattle.arrivals.proofs.PairLaws.{pairs_long, pair_in}
use Rattle.edgeplace.proofs.CutLaws.{parted, point_cut}
use Rattle.edgeplace.proofs.edge_place.Goals as goal

pub returns : goal.returns
returns c =
    let x = c.args in
    let pairs = c.as_chunks.result.0.now in
    let part = take x.count pairs in
    let p : List ℕ → Bool = λ y. is_before (edge_at y 0) (edge x.from x.to) in
    let f : ℕ → Bool = λ i. is_before (edge_at x.edges.now i) (edge x.from x.to) in
    let e = c.as_chunks.ensures in
    let long = pairs_long x.edges.now pairs x.count c.requires.0 e.front_len in
    let all : 0 + length part ≡ x.count = omega arith in
    let same : (i : ℕ) (d : List ℕ) → i < length part → p (get_or part i d) ≡ f (0 + i) = λ i d h.
    ap p (pair_in x.edges.now pairs x.count c.requires.0 e.front i d (omega arith)) ∙ ap f (omega arith) in
    let first = parted part p f 0 x.count all same c.requires.1 in
    let r = c.partition_point.result in
    point_cut part p f 0 x.count all same [] r r (omega arith) c.partition_point.ensures.bound
    (IsPartitionPoint-from_clause p part r c.partition_point.ensures.partitioned first (λ a r g k. search (rules, of_calls)))
