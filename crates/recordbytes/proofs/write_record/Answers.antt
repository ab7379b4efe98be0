-- `recordbytes::write_record` meets its contract: the record's numbers fill its bytes.
-- Assumes nothing.
use mathlib.Core.Path.{ap, ◌∙◌}
use mathlib.Core.List.{List}
use Prim.Native.Nat.{ℕ}
use Rattle.laws.specs.Bytes.{put_number}
use Rattle.eventbytes.specs.Event.{total_place}
use Rattle.eventbytes.proofs.EventLaws.{record_put}
use Rattle.recordbytes.proofs.write_record.Goals as goal

pub returns : goal.returns
returns c =
    c.write64-2.ensures
    ∙ ap (λ (l : List ℕ). put_number 8 l total_place c.args.r.alarms) c.write64.ensures
    ∙ record_put c.args.rec.now c.args.r c.requires
