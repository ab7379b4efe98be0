-- `rulelines::rule_lines` meets its contract.
-- Invariant: the first q lines pass, their rows are stored, and finals is the set of their final states.
-- Assumes nothing.
use mathlib.Core.Path.{refl, ◌∙◌}
use native.Mathlib.Omega.{arith}
use borrow.Author.Rules.{rules}
use lib.ListN.{drop, length-drop}
use Rattle.std.proofs.lemmas.Result.{err_from_is_err_and}
use Rattle.refusal.proofs.RefusalLaws.{number_some}
use Rattle.rulelines.proofs.RulesLaws.{rules_none, rules_more, rules_stop, rules_end}
use Rattle.rulelines.proofs.rule_lines.Goals as goal

pub loop-q-init : goal.loop-q-init
loop-q-init c = (search rules, rules_none _ _ _ _ _ c.clear_rule.ensures)

pub overflow_mul-q : goal.overflow_mul-q
overflow_mul-q c = let x = c.args in omega (arith, c.loop-q.invariant.1.within, length-drop x.at x.file.now)

pub overflow_add-at : goal.overflow_add-at
overflow_add-at c = let x = c.args in omega (arith, c.loop-q.invariant.1.within, length-drop x.at x.file.now)

pub rule_line-requires : goal.rule_line-requires
rule_line-requires c = let x = c.args in
    omega (arith, c.loop-q.invariant.1.within, c.loop-q.invariant.1.kept.long, length-drop x.at x.file.now)

pub shape_of-work-in_err-mark : goal.shape_of-work-in_err-mark
shape_of-work-in_err-mark c = c.in_err-mark.ensures.kept.long ∙ c.loop-q.invariant.1.kept.long ∙ c.clear_rule.ensures.kept.long

pub returns-in_err-mark : goal.returns-in_err-mark
returns-in_err-mark c = let x = c.args in
    let l = c.loop-q in
    let e = err_from_is_err_and c.from_residual.result c.from_residual.ensures.1 in
    rw (e.1, e.2)
    (rules_stop x.states x.symbols x.file.now x.at _ l.work _ l.q l.finals _ l.invariant.1 (omega arith) c.in_err-mark.ensures
    x.work.now (omega arith) (number_some _) c.clear_rule.ensures)

pub loop-q-preserved : goal.loop-q-preserved
loop-q-preserved c = let x = c.args in
    let l = c.loop-q in (
      search rules,
      rules_more x.states x.symbols x.file.now x.at _ l.work _ l.q l.finals _ l.invariant.1 (omega arith) c.in_ok-mark.ensures refl,
    )

pub shape_of-work : goal.shape_of-work
shape_of-work c = c.loop-q.invariant.1.kept.long ∙ c.clear_rule.ensures.kept.long

pub returns : goal.returns
returns c = let x = c.args in
    let l = c.loop-q in
    rules_end x.states x.symbols (drop x.at x.file.now) x.work.now _ l.work l.q l.finals (omega arith) c.clear_rule.ensures l.invariant.1
