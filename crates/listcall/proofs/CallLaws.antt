-- The ways out of listing as a call, in the shape of its code.
-- Assumes nothing.
use Rattle.std.specs.Prelude.{Result, Ok, Err}
use mathlib.Core.Path.{◌≡◌, sym, ap, ◌∙◌}
use mathlib.Core.Bool.{true≢false}
use mathlib.Core.List.{List}
use Prim.Native.Nat.{ℕ, ◌≤◌}
use lib.Dec.{ltb}
use lib.ListN.{length}
use borrow.Author.Tests.{ltb-false}
use Rattle.laws.proofs.Tests.{fails_of, or_right}
use Rattle.buffer.specs.Buffer.{work_size, cleared}
use Rattle.jobhead.specs.Numbers.{HeadNumbers}
use Rattle.buffer.specs.Views.{rule_rows_in}
use Rattle.tables.specs.Held.{Usable}
use Rattle.admission.specs.Admitted.{Admitted}
use Rattle.admission.proofs.AdmissionLaws.{admitted_reads}
use Rattle.admission.proofs.CallLaws.{Ends, ends_refused, ends_accepted}
use Rattle.listoutcome.specs.ListCall.{listing_size, list_answer, listed_of, listing_after}
use Rattle.listheld.specs.Held.{SomeJob, ListedHeld}

module _ (file work listing : List ℕ) where
  -- what the call answers, and leaves of the work buffer and of the listing buffer
  abbrev pub ListEnds : Result ℕ ℕ → List ℕ → List ℕ → Type 0
  ListEnds = Ends listed_of listing_after (list_answer file (length work) (length listing)) work listing

  module _ (m : List ℕ) (r : HeadNumbers) (a : Admitted (list_answer file (length work) (length listing)) work m r) where
    -- a refusal
    pub list_refused : (r.refusal ≡ 0 → ⊥) → ListEnds (Err r.refusal) m listing
    list_refused h = ends_refused listed_of listing_after listing a h

    module _ (h : r.refusal ≡ 0) where
      -- the listing buffer is long enough
      room : listing_size ≤ length listing
      room =
          let j = a.job h in
          let short = ltb (length listing) listing_size in
          let read = admitted_reads file _ j.job j.is in
          ltb-false (length listing) listing_size (fails_of short (λ t. true≢false (sym (or_right (ltb (length work) work_size) short t) ∙ read.0)))

      -- the job that was admitted may be listed
      pub list_ready
          : (1 ≤ r.nodes) × ((32768 ≤ length listing) × (Usable m (rule_rows_in m) r.states r.nodes
          × SomeJob m (rule_rows_in m) r.finals r.states r.nodes))
      list_ready = let j = a.job h in (j.some_node, (room, (j.usable, (j.job, j.held))))

      -- its listing
      pub list_accepted
          : (k after : List ℕ) (long : ℕ) → ListedHeld (rule_rows_in m) r.finals r.states r.nodes m k listing after long
          → ListEnds (Ok long) (cleared k) after
      list_accepted k after long g =
          ends_accepted listed_of listing_after listing a h k (Ok long) after g.kept
          (λ j held. let due = g.exact j held in (ap Ok due.0, due.1))
