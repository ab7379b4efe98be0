-- `indexcall::index_edges` meets its contract: the tests one after another, and past them the index is made.
-- Assumes nothing.
use mathlib.Core.Path.{sym, ◌∙◌}
use Rattle.arrivals.specs.Arrivals.{lists}
use Rattle.arrivals.proofs.FitsLaws.{fits_true}
use Rattle.indexcall.proofs.IndexCallLaws.{index_unfit, index_unordered, index_made}
use Rattle.indexcall.proofs.index_edges.Goals as goal

pub returns-then-not-is_fitting : goal.returns-then-not-is_fitting
returns-then-not-is_fitting c =
    let x = c.args in
    let l = (lists x.edges.now x.predecessors.now x.starts.now) in
    index_unfit x.nodes x.count l (sym c.is_fitting.ensures ∙ c.if-not-is_fitting.true)

pub is_ascending-requires : goal.is_ascending-requires
is_ascending-requires c =
    let x = c.args in
    let l = (lists x.edges.now x.predecessors.now x.starts.now) in
    (fits_true x.nodes x.count l (sym c.is_fitting.ensures ∙ c.if-not-is_fitting.false)).edges_long

pub returns-then-not-is_ascending : goal.returns-then-not-is_ascending
returns-then-not-is_ascending c =
    let x = c.args in
    let l = (lists x.edges.now x.predecessors.now x.starts.now) in
    index_unordered x.nodes x.count l (sym c.is_fitting.ensures ∙ c.if-not-is_fitting.false) (sym c.is_ascending.ensures ∙ c.if-not-is_ascending.true)

pub build_index-requires : goal.build_index-requires
build_index-requires c = ((sym c.is_fitting.ensures ∙ c.if-not-is_fitting.false), (sym c.is_ascending.ensures ∙ c.if-not-is_ascending.false))

pub returns : goal.returns
returns c =
    let x = c.args in
    let l = (lists x.edges.now x.predecessors.now x.starts.now) in
    let r = c.build_index in
    index_made x.nodes x.count l _ _ (sym c.is_fitting.ensures ∙ c.if-not-is_fitting.false) (sym c.is_ascending.ensures ∙ c.if-not-is_ascending.false) r.ensures.0 r.ensures.1
