-- `listprint::print_job` meets its contract: the answer of `list_job` is a length, and the listing is written, or the reason of a refusal, and the
-- X line of its number is.
-- Assumes nothing.
use mathlib.Core.Path.{ap}
use lib.ListN.{length}
use Rattle.refusal.specs.Refusal.{number_of, said}
use Rattle.listprint.proofs.PrintLaws.{print_left, listing_printed, refusal_fits, refusal_printed}
use Rattle.listprint.proofs.print_job.Goals as goal

pub write_refusal_line-requires : goal.write_refusal_line-requires
write_refusal_line-requires c =
    let x = c.args in
    let r = c.list_job-listed in
    rw c.from.ensures
    (refusal_fits x.file.now x.out.now r.new.listing (length x.work.now) (said r.result) c.requires.0 c.requires.1
    r.ensures.0 r.ensures.2 (number_of c.in-Err.refusal) (ap said c.in-Err.is))

pub returns-in-Ok : goal.returns-in-Ok
returns-in-Ok c =
    let x = c.args in
    let r = c.list_job-listed in
    let printed = listing_printed x.file.now x.out.now r.new.listing (length x.work.now) (said r.result) c.requires.0 c.requires.1
    r.ensures.0 r.ensures.2 c.in-Ok.length (ap said c.in-Ok.is) in
    let left = print_left x.file.now x.out.now r.new.listing (length x.work.now) (said r.result) c.requires.0 c.requires.1
    r.ensures.0 r.ensures.2 _ _ r.ensures.1 in
    (printed.0, printed.1, printed.2, left)

pub returns-in-Err : goal.returns-in-Err
returns-in-Err c =
    let x = c.args in
    let r = c.list_job-listed in
    let printed = refusal_printed x.file.now x.out.now r.new.listing (length x.work.now) (said r.result) c.requires.0 c.requires.1
    r.ensures.0 r.ensures.2 (number_of c.in-Err.refusal) (ap said c.in-Err.is) _ (rw c.from.ensures at c.write_refusal_line.ensures) in
    let left = print_left x.file.now x.out.now r.new.listing (length x.work.now) (said r.result) c.requires.0 c.requires.1
    r.ensures.0 r.ensures.2 _ _ r.ensures.1 in
    (printed.0, printed.1, printed.2, left)
