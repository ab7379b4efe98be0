-- `search::search::is_faithful` meets its contract.
-- Invariant: every pair held is reached, the starts are held, and every row that is not marked is closed.
-- Measure: what is left to the search, less where what comes back makes a row grow.
-- Assumes nothing.
use mathlib.Core.Path.{◌≡◌, sym, ap, ◌∙◌}
use mathlib.Core.Bool.{Bool, false}
use native.Mathlib.Omega.{arith}
use Rattle.tables.proofs.KeptLaws.{usable_same}
use Rattle.rounds.proofs.RoundLaws.{nothing_difference}
use Rattle.rounds.specs.declared.Seen.TheVariants.{Difference}
use Rattle.search.specs.Searched.{rounds_end}
use Rattle.search.proofs.SearchLaws.{searching_start, searching_round, searching_back, searching_end, searching_split}
use Rattle.search.proofs.search.is_faithful.Goals as goal

-- rounds that found no difference do not end with one
no_difference : (r : Bool) → r ≡ false → rounds_end r ≡ Difference → ⊥
no_difference r e d = nothing_difference (sym (ap rounds_end e) ∙ d)

pub start-requires : goal.start-requires
start-requires c = let u = c.requires in (u.long, u.few_nodes)

pub loop-finals-init : goal.loop-finals-init
loop-finals-init c = searching_start c.requires.few_nodes c.start.ensures

pub differs-requires : goal.differs-requires
differs-requires c = usable_same c.loop-finals.invariant.kept (usable_same c.start.ensures.kept c.requires)

pub shape_of-work-then-differs : goal.shape_of-work-then-differs
shape_of-work-then-differs c = c.differs.ensures.kept.long ∙ c.loop-finals.invariant.kept.long ∙ c.start.ensures.kept.long

pub returns-then-differs : goal.returns-then-differs
returns-then-differs c =
    searching_split c.start.ensures.kept c.requires c.loop-finals.invariant c.differs.ensures (ap rounds_end c.if-differs.true)

pub come_back-requires : goal.come_back-requires
come_back-requires c =
    let rounds = c.differs.ensures in (
      usable_same rounds.kept (usable_same c.loop-finals.invariant.kept (usable_same c.start.ensures.kept c.requires)),
      rounds.none (ap rounds_end c.if-differs.false),
    )

pub shape_of-work-then-not-come_back : goal.shape_of-work-then-not-come_back
shape_of-work-then-not-come_back c =
    c.come_back.ensures.kept.long ∙ c.differs.ensures.kept.long ∙ c.loop-finals.invariant.kept.long ∙ c.start.ensures.kept.long

pub returns-then-not-come_back : goal.returns-then-not-come_back
returns-then-not-come_back c =
    let start = c.start.ensures.kept in
    let u = c.requires in
    searching_end start u
    (searching_round (usable_same start u) c.loop-finals.invariant c.differs.ensures (no_difference _ c.if-differs.false))
    c.come_back.ensures (c.if-not-come_back.true)

pub loop-finals-smaller : goal.loop-finals-smaller
loop-finals-smaller c = omega (arith, c.differs.ensures.most, c.come_back.ensures.left (c.if-not-come_back.false))

pub loop-finals-preserved : goal.loop-finals-preserved
loop-finals-preserved c =
    let u = usable_same c.start.ensures.kept c.requires in
    searching_back u
    (searching_round u c.loop-finals.invariant c.differs.ensures (no_difference _ c.if-differs.false))
    c.come_back.ensures
