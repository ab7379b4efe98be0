-- `indextest::is_ascending` meets its contract.
-- Invariant: the edges before the index pass, and `least` is one more than the number of the last of them.
-- Assumes nothing.
use Prim.Native.Nat.{ℕ, ◌<◌}
use native.Mathlib.Omega.{arith}
use lib.ListN.{get_or}
use Rattle.arrivals.proofs.PairLaws.{pairs_long, pair_first, pair_second}
use Rattle.indextest.proofs.AscendLaws.{ascend_none, ascend_more, ascend_all, ascend_stops}
use Rattle.indextest.proofs.is_ascending.Goals as goal
use Rattle.indextest.proofs.is_ascending.Goals.{In-loop-from, then-nodes-from-via-then-nodes-from, then-nodes-from-via-else-nodes-from+then-nodes-to}

pub loop-from-init : goal.loop-from-init
loop-from-init c = let x = c.args in ascend_none x.nodes x.edges.now

pub returns-then-nodes-from : goal.returns-then-nodes-from
returns-then-nodes-from c =
    let x = c.args in
    let l = c.loop-from in
    let e = c.as_chunks.ensures in
    let small : (j : ℕ) → get_or x.edges.now j 0 < 65536 = λ j. omega (arith, c.type_inv.edges j) in
    let long = pairs_long x.edges.now c.as_chunks.result.0.now x.count c.requires e.front_len in
    let below : l.from-index < x.count = omega arith in
    let from = pair_first x.edges.now c.as_chunks.result.0.now x.count c.requires e.front l.from-index below in
    let to = pair_second x.edges.now c.as_chunks.result.0.now x.count c.requires e.front l.from-index below in
    ascend_stops x.nodes x.edges.now small x.count l.from-index l.least l.invariant below
    (λ h. elim c.then-nodes-from.branch [
      | then-nodes-from-via-then-nodes-from w ↦ omega (arith, from, w.if-nodes-from.true, h.0)
      | then-nodes-from-via-else-nodes-from+then-nodes-to w ↦ omega (arith, to, w.if-nodes-to.true, h.1)
    ])

pub returns-then-key-least : goal.returns-then-key-least
returns-then-key-least c =
    let x = c.args in
    let l = c.loop-from in
    let e = c.as_chunks.ensures in
    let small : (j : ℕ) → get_or x.edges.now j 0 < 65536 = λ j. omega (arith, c.type_inv.edges j) in
    let long = pairs_long x.edges.now c.as_chunks.result.0.now x.count c.requires e.front_len in
    let below : l.from-index < x.count = omega arith in
    let from = pair_first x.edges.now c.as_chunks.result.0.now x.count c.requires e.front l.from-index below in
    let to = pair_second x.edges.now c.as_chunks.result.0.now x.count c.requires e.front l.from-index below in
    ascend_stops x.nodes x.edges.now small x.count l.from-index l.least l.invariant below
    (λ h. omega (arith, from, to, c.if-key-least.true, h.2))

pub loop-from-preserved : goal.loop-from-preserved
loop-from-preserved c =
    let x = c.args in
    let l = c.loop-from in
    let e = c.as_chunks.ensures in
    let small : (j : ℕ) → get_or x.edges.now j 0 < 65536 = λ j. omega (arith, c.type_inv.edges j) in
    let long = pairs_long x.edges.now c.as_chunks.result.0.now x.count c.requires e.front_len in
    let below : l.from-index < x.count = omega arith in
    let from = pair_first x.edges.now c.as_chunks.result.0.now x.count c.requires e.front l.from-index below in
    let to = pair_second x.edges.now c.as_chunks.result.0.now x.count c.requires e.front l.from-index below in
    rw (from, to)
    (ascend_more x.nodes x.edges.now small l.from-index l.least l.invariant (omega (arith, from, c.if-nodes-from.false))
    (omega (arith, to, c.if-nodes-to.false)) (omega (arith, from, to, c.if-key-least.false)))

pub returns : goal.returns
returns c =
    let x = c.args in
    let l = c.loop-from in
    let long = pairs_long x.edges.now c.as_chunks.result.0.now x.count c.requires c.as_chunks.ensures.front_len in
    ascend_all x.nodes x.edges.now x.count l.from-index l.least l.invariant (omega arith)
