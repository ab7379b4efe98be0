-- `indextest::is_fresh` meets its contract: the walk over the edges and the cursors after it decide whether the index is fresh.
-- Assumes nothing.
use mathlib.Core.Path.{sym, ◌∙◌}
use native.Mathlib.Omega.{arith}
use Rattle.arrivals.specs.Arrivals.{lists}
use Rattle.arrivals.proofs.OrderLaws.{ends_below}
use Rattle.arrivals.proofs.FitsLaws.{fits_true}
use Rattle.indextest.proofs.FreshLaws.{fresh_fails, fresh_rest}
use Rattle.indextest.proofs.is_fresh.Goals as goal

pub copy_starts-requires : goal.copy_starts-requires
copy_starts-requires c =
    let x = c.args in
    let f = fits_true x.nodes x.count (lists x.edges.now x.predecessors.now x.starts.now) c.requires.0 in
    (omega (arith, f.starts_long), f.few_nodes)

pub arrive_all-requires : goal.arrive_all-requires
arrive_all-requires c =
    let x = c.args in
    let f = fits_true x.nodes x.count (lists x.edges.now x.predecessors.now x.starts.now) c.requires.0 in
    let ends = ends_below x.nodes x.count x.edges.now c.requires.1 in
    (record { edges = f.edges_long; few = f.few_edges; ends = λ i h. omega (arith, ends i h, f.few_nodes) }, f.predecessors_long)

pub all_met-requires : goal.all_met-requires
all_met-requires c =
    let x = c.args in
    let f = fits_true x.nodes x.count (lists x.edges.now x.predecessors.now x.starts.now) c.requires.0 in
    (omega (arith, f.starts_long), omega (arith, f.few_nodes))

pub returns-then-arrive_all : goal.returns-then-arrive_all
returns-then-arrive_all c =
    let x = c.args in
    let f = fits_true x.nodes x.count (lists x.edges.now x.predecessors.now x.starts.now) c.requires.0 in
    let ends = ends_below x.nodes x.count x.edges.now c.requires.1 in
    let copied = c.copy_starts in
    let walked = c.arrive_all in
    let more = fresh_rest
    x.nodes x.count x.edges.now x.predecessors.now x.starts.now copied.new.next ends copied.ensures
    walked.new.next (omega (arith, f.few_nodes)) (sym c.if-arrive_all.true ∙ walked.ensures.test)
    (walked.ensures.cursors c.if-arrive_all.true) in
    c.all_met.ensures ∙ more

pub returns-else-arrive_all : goal.returns-else-arrive_all
returns-else-arrive_all c =
    let x = c.args in
    let ends = ends_below x.nodes x.count x.edges.now c.requires.1 in
    let copied = c.copy_starts in
    let walked = c.arrive_all in
    c.if-arrive_all.false
    ∙ fresh_fails
    x.nodes x.count x.edges.now x.predecessors.now x.starts.now copied.new.next ends copied.ensures
    (sym c.if-arrive_all.false ∙ walked.ensures.test)
