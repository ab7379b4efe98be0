-- `jobreader::read_job` meets its contract: a file that is too long, a J line that does not pass, or what the lines past it give.
-- Assumes nothing.
use mathlib.Core.Path.{refl}
use Rattle.std.proofs.lemmas.Result.{err_from_is_err_and}
use Rattle.refusal.proofs.RefusalLaws.{number_some}
use Rattle.jobreader.proofs.ReadLaws.{long_read, head_refused, file_read}
use Rattle.jobreader.proofs.read_job.Goals as goal

pub returns-then-file-gt-LONGEST : goal.returns-then-file-gt-LONGEST
returns-then-file-gt-LONGEST c = let x = c.args in long_read x.file.now x.work.now _ c.if-file-gt-LONGEST.true refl

pub returns-in_err-head : goal.returns-in_err-head
returns-in_err-head c = let x = c.args in
    let e = err_from_is_err_and c.from_residual.result c.from_residual.ensures.1 in
    rw (e.1, e.2)
    (head_refused x.file.now x.work.now x.work.now _ _ c.if-file-gt-LONGEST.false c.in_err-head.ensures (number_some _) refl refl)

pub read_rest-requires : goal.read_rest-requires
read_rest-requires c = let h = c.in_ok-head.ensures in
    (h.within refl, (c.requires, (h.few_states, (h.few_symbols, (h.few_nodes, h.few_edges)))))

pub returns : goal.returns
returns c = let x = c.args in
    file_read x.file.now x.work.now _ _ _ c.if-file-gt-LONGEST.false c.in_ok-head.ensures refl c.read_rest.ensures
