-- `indextest::arrive_all` meets its contract.
-- Invariant: the edges before the index stand at their places, and the cursors are past them.
-- Assumes nothing.
use mathlib.Core.Path.{sym, ap, ◌∙◌}
use native.Mathlib.Omega.{arith}
use Prim.Native.Nat.{ℕ, ◌<◌}
use lib.ListN.{get_or}
use Rattle.arrivals.proofs.PairLaws.{pairs_long, pair_first, pair_second}
use Rattle.indextest.proofs.FreshLaws.{arriving_none, arriving_more, arriving_all, arriving_stops}
use Rattle.indextest.proofs.arrive_all.Goals as goal
use Rattle.indextest.proofs.arrive_all.Goals.{then-count-at-via-then-count-at, then-count-at-via-else-count-at+then-predecessors-at}

pub loop-from-init : goal.loop-from-init
loop-from-init c =
    let x = c.args in
    arriving_none x.edges.now x.predecessors.now x.next.now x.count

pub bounds-next-node : goal.bounds-next-node
bounds-next-node c =
    let x = c.args in
    let l = c.loop-from in
    let e = c.as_chunks.ensures in
    let w = c.requires.0 in
    let long = pairs_long x.edges.now c.as_chunks.result.0.now x.count w.edges e.front_len in
    let below : l.from-index < x.count = omega arith in
    let to = pair_second x.edges.now c.as_chunks.result.0.now x.count w.edges e.front l.from-index below in
    omega (arith, to, w.ends l.from-index below, l.invariant.long)

pub bounds-next-node-in-loop-from : goal.bounds-next-node-in-loop-from
bounds-next-node-in-loop-from c =
    let x = c.args in
    let l = c.loop-from in
    let e = c.as_chunks.ensures in
    let w = c.requires.0 in
    let long = pairs_long x.edges.now c.as_chunks.result.0.now x.count w.edges e.front_len in
    let below : l.from-index < x.count = omega arith in
    let to = pair_second x.edges.now c.as_chunks.result.0.now x.count w.edges e.front l.from-index below in
    omega (arith, to, w.ends l.from-index below, l.invariant.long)

pub returns-then-count-at : goal.returns-then-count-at
returns-then-count-at c =
    let x = c.args in
    let l = c.loop-from in
    let e = c.as_chunks.ensures in
    let p = c.requires.0 in
    let long = pairs_long x.edges.now c.as_chunks.result.0.now x.count p.edges e.front_len in
    let below : l.from-index < x.count = omega arith in
    let from = pair_first x.edges.now c.as_chunks.result.0.now x.count p.edges e.front l.from-index below in
    let to = pair_second x.edges.now c.as_chunks.result.0.now x.count p.edges e.front l.from-index below in
    let at : ℕ → ℕ = λ node. get_or x.predecessors.now (get_or l.next node 0) 0 in
    arriving_stops x.edges.now x.predecessors.now x.next.now l.next x.count l.from-index below (p.ends l.from-index below) l.invariant
    (λ h. elim c.then-count-at.branch [
      | then-count-at-via-then-count-at w ↦ let past = rw to at w.if-count-at.true in omega (arith, past, h.0)
      | then-count-at-via-else-count-at+then-predecessors-at w ↦ w.if-predecessors-at.true (ap at to ∙ h.1 ∙ sym from)
    ])

pub loop-from-preserved : goal.loop-from-preserved
loop-from-preserved c =
    let x = c.args in
    let l = c.loop-from in
    let e = c.as_chunks.ensures in
    let p = c.requires.0 in
    let long = pairs_long x.edges.now c.as_chunks.result.0.now x.count p.edges e.front_len in
    let below : l.from-index < x.count = omega arith in
    let from = pair_first x.edges.now c.as_chunks.result.0.now x.count p.edges e.front l.from-index below in
    let to = pair_second x.edges.now c.as_chunks.result.0.now x.count p.edges e.front l.from-index below in
    let inside = rw to at c.if-count-at.false in
    let at : ℕ → ℕ = λ node. get_or x.predecessors.now (get_or l.next node 0) 0 in
    let same = sym (ap at to) ∙ c.if-predecessors-at.false ∙ from in
    rw to
    (arriving_more x.edges.now x.predecessors.now x.next.now l.next x.count l.from-index below (p.ends l.from-index below)
    l.invariant (omega (arith, inside)) same)

pub returns : goal.returns
returns c =
    let x = c.args in
    let l = c.loop-from in
    let long = pairs_long x.edges.now c.as_chunks.result.0.now x.count c.requires.0.edges c.as_chunks.ensures.front_len in
    arriving_all x.edges.now x.predecessors.now x.next.now l.next x.count l.from-index (omega arith) (omega arith) l.invariant
