-- Laws of the listing of the job that the work buffer holds.
-- Assumes nothing.
use mathlib.Core.Path.{◌≡◌, sym, ap, subst}
use mathlib.Core.List.{List}
use Prim.Native.Nat.{ℕ, ◌≤◌, ◌<◌}
use native.Mathlib.Omega.{arith}
use lib.ListN.{length}
use Rattle.buffer.specs.Buffer.{work_size}
use Rattle.buffer.specs.Layout.{nodes_part, pair_part, Lent}
use Rattle.buffer.proofs.KeptLaws.{kept_none, kept_both}
use Rattle.tables.specs.Rows.{CellsBelow}
use Rattle.tables.specs.Held.{Usable, JobHeld}
use Rattle.tables.proofs.JobKeptLaws.{table_usable}
use Rattle.passes.specs.declared.passes.Counts.{Counts}
use Rattle.passes.specs.Counts.{counts_of}
use Rattle.planoutcome.proofs.CountLaws.{counts_held}
use Rattle.found.specs.FoundHeld.{Found}
use Rattle.listingtext.specs.TextWritten.{LinesWritten}
use Rattle.listheld.specs.Held.{SomeJob, ListedHeld}

module _ {rule table : List (List ℕ)} {finals states nodes : ℕ} {l m : List ℕ} {counts : Counts} (same : table ≡ rule)
    (usable : Usable l rule states nodes) (found : Found table finals states nodes l m counts) where
  -- what the lines need: the counts of a job have few digits
  pub lines_ready
      : (listing : List ℕ) → 32768 ≤ length listing → SomeJob l rule finals states nodes
      → (Lent m) × ((nodes ≤ 512) × ((states ≤ 16) × (CellsBelow table × ((32768 ≤ length listing)
      × ((counts.shadows < 1000000) × ((counts.enabled < 1000000) × (counts.passes < 1000000)))))))
  lines_ready listing room some =
      let held = subst (λ (t : List (List ℕ)). JobHeld some.0 l t finals states nodes) (sym same) some.1 in
      let is : counts ≡ counts_of some.0 = (found.exact some.0 held).1 in
      let fit = counts_held usable.few_nodes held in
      let shadows : counts.shadows < 1000000 = omega (arith, ap (λ (c : Counts). c.shadows) is, fit.shadows) in
      let enabled : counts.enabled < 1000000 = omega (arith, ap (λ (c : Counts). c.enabled) is, fit.enabled) in
      let passes : counts.passes < 1000000 = omega (arith, ap (λ (c : Counts). c.passes) is, fit.passes) in
      let cells = (table_usable same usable).cells in
      (omega (arith, found.kept.long, usable.long), (usable.few_nodes, (usable.few_states, (cells, (room, (shadows, (enabled, passes)))))))

  -- what was found is written
  pub listed_held
      : {before after : List ℕ} {long : ℕ} → LinesWritten table finals states nodes counts m before after long
      → ListedHeld rule finals states nodes l m before after long
  listed_held {before} {after} {long} written =
      subst (λ (t : List (List ℕ)). ListedHeld t finals states nodes l m before after long) same (record {
        kept = kept_both l l m nodes_part work_size pair_part work_size (kept_none l nodes_part work_size) found.kept (omega arith) (omega arith);
        exact = λ j held.
            let f = found.exact j held in
            let w = written.exact j f.0 f.1 in
            (w.1, w.0);
      })
