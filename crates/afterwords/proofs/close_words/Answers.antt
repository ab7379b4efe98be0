-- `afterwords::close_words` meets its contract.
-- Invariant: the rows hold what words tell apart; they are closed where the last round grew none.
-- Measure: the room in the rows and one more; nothing where the last round grew none.
-- Assumes nothing.
use mathlib.Core.Path.{sym, ◌∙◌}
use native.Mathlib.Omega.{arith}
use Rattle.tables.specs.Sixteen.{rows_left}
use Rattle.classes.proofs.GrownLaws.{rank_less}
use Rattle.classes.proofs.WordLaws.{closing_start, closing_more, Closing-End}
use Rattle.afterwords.proofs.close_words.Goals as goal

pub loop-grown-init : goal.loop-grown-init
loop-grown-init c =
    let a = c.args in
    closing_start a.table.now a.finals a.states a.rows.now a.set c.requires.0

pub word_round-grown-requires : goal.word_round-grown-requires
word_round-grown-requires c = (c.loop-grown.invariant.sixteen, c.requires.1)

pub loop-grown-smaller : goal.loop-grown-smaller
loop-grown-smaller c =
    let loop = c.loop-grown in
    let round = c.word_round-grown in
    rank_less loop.grown round.result (rows_left round.new.rows) (rows_left loop.rows)
    c.loop-grown-test.true round.ensures.left

pub loop-grown-preserved : goal.loop-grown-preserved
loop-grown-preserved c =
    let a = c.args in
    let loop = c.loop-grown in
    let round = c.word_round-grown in
    closing_more a.table.now a.finals a.states a.rows.now loop.rows round.new.rows a.set loop.grown round.result
    loop.invariant round.ensures

pub shape_of-rows : goal.shape_of-rows
shape_of-rows c = c.loop-grown.invariant.sixteen.long ∙ sym c.requires.0.long

pub returns : goal.returns
returns c =
    let a = c.args in
    let pre = c.requires in
    Closing-End a.table.now a.finals a.states a.rows.now c.loop-grown.rows a.set c.loop-grown.grown pre.1.1
    pre.1.0 c.loop-grown.invariant (omega arith)
