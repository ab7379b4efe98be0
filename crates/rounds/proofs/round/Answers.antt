-- `rounds::round` meets its contract.
-- Invariant: every pair held follows the first ones, and rows that are not marked are closed if they were; within a node the rows looked at
-- are closed but for its edges, and `rows` has their pairs past the node, which the edges then get.
-- Measure: the nodes, and within a node the set of rows, still to be looked at.
-- Assumes nothing.
use mathlib.Core.Path.{refl, sym, subst, ◌∙◌}
use native.Mathlib.Omega.{arith}
use Rattle.laws.proofs.Walk.{clear_lt}
use Rattle.tables.proofs.KeptLaws.{usable_same}
use Rattle.tables.proofs.SixteenLaws.{empty_rows, empty_row}
use Rattle.rounds.proofs.RoundLaws.{rows_none, row_small, rows_more, node_looked}
use Rattle.rounds.proofs.RoundLaws.{RoundSoFar, round_none, round_more, round_split, round_end}
use Rattle.rounds.proofs.round.Goals as goal

pub next_marked-n-requires : goal.next_marked-n-requires
next_marked-n-requires c =
    let u = c.requires in
    (u.long, (omega arith, u.few_nodes))

pub search-init : goal.search-init
search-init c = round_none _ _ c.next_marked-n.ensures

pub take_marks-rest-requires : goal.take_marks-rest-requires
take_marks-rest-requires c =
    let u = c.requires in
    (omega (arith, u.long, c.search.invariant.kept.long), omega (arith, u.few_nodes))

pub loop-rest-init : goal.loop-rest-init
unfolding empty_rows
loop-rest-init c = (refl, rows_none _ _ _ (empty_rows 16) (omega arith) refl (empty_row 16))

pub look-past-requires : goal.look-past-requires
look-past-requires c =
    let search = c.search in
    let t = c.take_marks-rest.ensures in
    let r = c.loop-rest.invariant.1 in
    let taken = usable_same t.kept (usable_same search.invariant.kept c.requires) in
    let u = usable_same r.grown.kept taken in
    (u.long, (omega (arith, u.few_nodes), (row_small taken (omega arith) r (omega arith) c.lowest-p.ensures, u.cells)))

pub bounds-rows-state : goal.bounds-rows-state
bounds-rows-state c = omega (arith, c.look-past.ensures.small)

pub bounds-rows-state-in-loop-rest : goal.bounds-rows-state-in-loop-rest
bounds-rows-state-in-loop-rest c = omega (arith, c.look-past.ensures.small)

pub loop-rest-smaller : goal.loop-rest-smaller
loop-rest-smaller c =
    let l = c.loop-rest in
    rw c.without_lowest-rest.ensures (clear_lt l.rest (omega arith))

pub loop-rest-preserved : goal.loop-rest-preserved
loop-rest-preserved c =
    let i = c.search.invariant in
    let t = c.take_marks-rest.ensures in
    let r = c.loop-rest.invariant in
    let low = c.lowest-p.ensures in
    let u = usable_same t.kept (usable_same i.kept c.requires) in (
      r.0,
      rows_more u (omega arith) r.1 (row_small u (omega arith) r.1 (omega arith) low) c.look-past.ensures (omega arith) low
          c.without_lowest-rest.ensures c.if-past.false refl,
    )

pub join_successors-requires : goal.join_successors-requires
join_successors-requires c =
    let i = c.search.invariant in
    let t = c.take_marks-rest.ensures in
    let r = c.loop-rest.invariant.1 in
    let u = usable_same r.grown.kept (usable_same t.kept (usable_same i.kept c.requires)) in
    (u.long, (omega (arith, u.few_nodes), u.edges _ (omega arith)))

pub next_marked-n-requires-in-search : goal.next_marked-n-requires-in-search
next_marked-n-requires-in-search c =
    let i = c.search.invariant in
    let t = c.take_marks-rest.ensures in
    let r = c.loop-rest.invariant.1 in
    let j = c.join_successors.ensures in
    let u = usable_same j.grown.kept (usable_same r.grown.kept (usable_same t.kept (usable_same i.kept c.requires))) in
    (u.long, (omega arith, u.few_nodes))

pub search-smaller : goal.search-smaller
search-smaller c = omega (arith, c.next_marked-n-in-search.ensures.from)

pub search-preserved : goal.search-preserved
search-preserved c =
    let i = c.search.invariant in
    let t = c.take_marks-rest.ensures in
    let r = c.loop-rest.invariant in
    let u = usable_same t.kept (usable_same i.kept c.requires) in
    subst (RoundSoFar _ _ _ _ _ _ _) (sym r.0)
    (round_more c.requires (omega arith) i t (node_looked u (omega arith) r.1 (omega arith) c.join_successors.ensures)
    c.next_marked-n-in-search.ensures)

pub shape_of-work-after-search : goal.shape_of-work-after-search
shape_of-work-after-search c = c.search.invariant.kept.long

pub returns-after-search : goal.returns-after-search
returns-after-search c = round_end (omega arith) c.search.invariant

pub shape_of-work-then-past : goal.shape_of-work-then-past
shape_of-work-then-past c =
    let i = c.search.invariant in
    let t = c.take_marks-rest.ensures in
    let r = c.loop-rest.invariant in
    c.look-past.ensures.grown.kept.long ∙ r.1.grown.kept.long ∙ t.kept.long ∙ i.kept.long

pub returns-then-past : goal.returns-then-past
returns-then-past c =
    let i = c.search.invariant in
    let t = c.take_marks-rest.ensures in
    let r = c.loop-rest.invariant.1 in
    let u = usable_same t.kept (usable_same i.kept c.requires) in
    round_split c.requires (omega arith) i t (row_small u (omega arith) r (omega arith) c.lowest-p.ensures) c.if-past.true r
    c.look-past.ensures
