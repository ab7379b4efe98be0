-- `restlines::read_rest` meets its contract: each way out has the answer of the definition, and the last one the job of the lines.
-- Assumes nothing.
use Prim.Native.Nat.{◌+◌, ◌*◌}
use mathlib.Core.Path.{refl, ◌∙◌}
use mathlib.Core.List.{[], ◌∷◌}
use native.Mathlib.Omega.{arith}
use lib.ListN.{drop, length-drop}
use Rattle.std.proofs.lemmas.Result.{err_from_is_err_and}
use Rattle.refusal.proofs.RefusalLaws.{number_some}
use Rattle.buffer.specs.Layout.{starts_part, pair_part}
use Rattle.jobfile.specs.File.{read_rest}
use Rattle.restlines.proofs.RestLaws.{rest_rule, rest_then, turned_read, answer_rules, answer_nodes, answer_edges, answer_more, answer_entry, answer_job, job_read}
use Rattle.restlines.proofs.read_rest.Goals as goal

pub shape_of-work-in_err-finals : goal.shape_of-work-in_err-finals
shape_of-work-in_err-finals c =
    c.in_err-finals.ensures.kept.long

pub returns-in_err-finals : goal.returns-in_err-finals
returns-in_err-finals c =
    let x = c.args in
    let e = err_from_is_err_and c.from_residual.result c.from_residual.ensures.1 in
    let r1 = c.in_err-finals.ensures in
    rw (e.1, e.2)
    (turned_read (read_rest (x.head.states ∷ x.head.symbols ∷ x.head.nodes ∷ x.head.edges ∷ []) (drop 26 x.file.now)) _ x.work.now _ _
    (answer_rules x.head.states x.head.symbols x.head.nodes x.head.edges x.file.now _ r1.lines (number_some _)) (number_some _) refl
    (rest_rule x.work.now _ r1.kept))

pub overflow_mul-second-2 : goal.overflow_mul-second-2
overflow_mul-second-2 c =
    let x = c.args in
    let r1 = c.in_ok-finals.ensures in
    omega (arith, r1.lines.within refl, length-drop 26 x.file.now)

pub overflow_add-second-3 : goal.overflow_add-second-3
overflow_add-second-3 c =
    let x = c.args in
    let r1 = c.in_ok-finals.ensures in
    omega (arith, r1.lines.within refl, length-drop 26 x.file.now)

pub node_lines-requires : goal.node_lines-requires
node_lines-requires c =
    let x = c.args in
    let r1 = c.in_ok-finals.ensures in
    omega (arith, r1.lines.within refl, r1.kept.long, length-drop 26 x.file.now, c.requires)

pub shape_of-work-in_err-entries : goal.shape_of-work-in_err-entries
shape_of-work-in_err-entries c =
    c.in_err-entries.ensures.kept.long ∙ c.in_ok-finals.ensures.kept.long

pub returns-in_err-entries : goal.returns-in_err-entries
returns-in_err-entries c =
    let x = c.args in
    let e = err_from_is_err_and c.from_residual-in_err-entries.result c.from_residual-in_err-entries.ensures.1 in
    let r1 = c.in_ok-finals.ensures in
    let r2 = c.in_err-entries.ensures in
    rw (e.1, e.2)
    (turned_read (read_rest (x.head.states ∷ x.head.symbols ∷ x.head.nodes ∷ x.head.edges ∷ []) (drop 26 x.file.now)) _ x.work.now _ _
    (answer_nodes x.head.states x.head.symbols x.head.nodes x.head.edges x.file.now r1.lines _ r2.lines (number_some _)) (number_some _) refl
    (rest_then x.work.now _ _ 0 starts_part (rest_rule x.work.now _ r1.kept) r2.kept (omega arith)))

pub overflow_add-third : goal.overflow_add-third
overflow_add-third c =
    let x = c.args in
    let r1 = c.in_ok-finals.ensures in
    let r2 = c.in_ok-entries.ensures in
    omega (arith, r2.lines.within refl, r1.lines.within refl, length-drop 26 x.file.now, length-drop (26 + x.head.states * ((x.head.symbols + 2) * 6 + 2)) x.file.now)

pub edge_lines-requires : goal.edge_lines-requires
edge_lines-requires c =
    let x = c.args in
    let r1 = c.in_ok-finals.ensures in
    let r2 = c.in_ok-entries.ensures in
    omega (arith, r2.lines.within refl, r1.lines.within refl, r2.kept.long, r1.kept.long, length-drop 26 x.file.now, length-drop (26 + x.head.states * ((x.head.symbols + 2) * 6 + 2)) x.file.now, c.requires)

pub shape_of-work-in_err-edge_lines : goal.shape_of-work-in_err-edge_lines
shape_of-work-in_err-edge_lines c =
    c.in_err-edge_lines.ensures.kept.long ∙ c.in_ok-entries.ensures.kept.long ∙ c.in_ok-finals.ensures.kept.long

pub returns-in_err-edge_lines : goal.returns-in_err-edge_lines
returns-in_err-edge_lines c =
    let x = c.args in
    let e = err_from_is_err_and c.from_residual-in_err-edge_lines.result c.from_residual-in_err-edge_lines.ensures.1 in
    let r1 = c.in_ok-finals.ensures in
    let r2 = c.in_ok-entries.ensures in
    let r3 = c.in_err-edge_lines.ensures in
    rw (e.1, e.2)
    (turned_read (read_rest (x.head.states ∷ x.head.symbols ∷ x.head.nodes ∷ x.head.edges ∷ []) (drop 26 x.file.now)) _ x.work.now _ _
    (answer_edges x.head.states x.head.symbols x.head.nodes x.head.edges x.file.now r1.lines r2.lines _ r3.lines (number_some _)) (number_some _) refl
    (rest_then x.work.now _ _ starts_part pair_part (rest_then x.work.now _ _ 0 starts_part (rest_rule x.work.now _ r1.kept) r2.kept (omega arith)) r3.kept (omega arith)))

pub overflow_add-third-2 : goal.overflow_add-third-2
overflow_add-third-2 c =
    let x = c.args in
    let r1 = c.in_ok-finals.ensures in
    let r2 = c.in_ok-entries.ensures in
    let r3 = c.in_ok-edge_lines.ensures in
    omega (arith, r3.lines.within refl, r2.lines.within refl, r1.lines.within refl, length-drop 26 x.file.now, length-drop (26 + x.head.states * ((x.head.symbols + 2) * 6 + 2)) x.file.now, length-drop ((26 + x.head.states * ((x.head.symbols + 2) * 6 + 2)) + x.head.nodes * 38) x.file.now)

pub shape_of-work-then-third-e : goal.shape_of-work-then-third-e
shape_of-work-then-third-e c =
    c.in_ok-edge_lines.ensures.kept.long ∙ c.in_ok-entries.ensures.kept.long ∙ c.in_ok-finals.ensures.kept.long

pub returns-then-third-e : goal.returns-then-third-e
returns-then-third-e c =
    let x = c.args in
    let r1 = c.in_ok-finals.ensures in
    let r2 = c.in_ok-entries.ensures in
    let r3 = c.in_ok-edge_lines.ensures in
    turned_read (read_rest (x.head.states ∷ x.head.symbols ∷ x.head.nodes ∷ x.head.edges ∷ []) (drop 26 x.file.now)) 9 x.work.now _ _
    (answer_more x.head.states x.head.symbols x.head.nodes x.head.edges x.file.now r1.lines r2.lines r3.lines c.if-third-e.true) (λ z. absurd (omega arith)) refl
    (rest_then x.work.now _ _ starts_part pair_part (rest_then x.work.now _ _ 0 starts_part (rest_rule x.work.now _ r1.kept) r2.kept (omega arith)) r3.kept (omega arith))

pub shape_of-work-then-entries-eq0 : goal.shape_of-work-then-entries-eq0
shape_of-work-then-entries-eq0 c =
    c.in_ok-edge_lines.ensures.kept.long ∙ c.in_ok-entries.ensures.kept.long ∙ c.in_ok-finals.ensures.kept.long

pub returns-then-entries-eq0 : goal.returns-then-entries-eq0
returns-then-entries-eq0 c =
    let x = c.args in
    let r1 = c.in_ok-finals.ensures in
    let r2 = c.in_ok-entries.ensures in
    let r3 = c.in_ok-edge_lines.ensures in
    turned_read (read_rest (x.head.states ∷ x.head.symbols ∷ x.head.nodes ∷ x.head.edges ∷ []) (drop 26 x.file.now)) 10 x.work.now _ _
    (answer_entry x.head.states x.head.symbols x.head.nodes x.head.edges x.file.now r1.lines r2.lines r3.lines _ c.if-third-e.false (r2.number refl) c.if-entries-eq0.true)
    (λ z. absurd (omega arith)) refl
    (rest_then x.work.now _ _ starts_part pair_part (rest_then x.work.now _ _ 0 starts_part (rest_rule x.work.now _ r1.kept) r2.kept (omega arith)) r3.kept (omega arith))

pub shape_of-work : goal.shape_of-work
shape_of-work c =
    c.in_ok-edge_lines.ensures.kept.long ∙ c.in_ok-entries.ensures.kept.long ∙ c.in_ok-finals.ensures.kept.long

pub returns : goal.returns
returns c =
    let x = c.args in
    let r1 = c.in_ok-finals.ensures in
    let r2 = c.in_ok-entries.ensures in
    let r3 = c.in_ok-edge_lines.ensures in
    let p = c.requires in
    job_read x.head.states x.head.symbols x.head.nodes x.head.edges x.file.now x.work.now _ _ _ _ _ _ p.1.1.1.0 p.1.1.1.1.0 r1 r2 r3 refl refl refl
    (answer_job x.head.states x.head.symbols x.head.nodes x.head.edges x.file.now r1.lines r2.lines r3.lines _ c.if-third-e.false (r2.number refl) c.if-entries-eq0.false)
