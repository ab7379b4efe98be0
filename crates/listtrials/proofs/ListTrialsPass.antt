-- The table of calls is answered as it should be: past the tests of the buffers the answer is the file's, which is computed, row by row.
-- Assumes nothing.
use mathlib.Core.Path.{◌≡◌, refl, sym, ap, subst, ◌∙◌}
use mathlib.Core.List.{List, []}
use Prim.Native.Nat.{ℕ}
use lib.ListN.{length}
use lib.Seq.{sets}
use Rattle.laws.specs.Bounded.{all_below, sum_below}
use Rattle.laws.specs.Bits.{has}
use Rattle.automaton.specs.Automaton.{cell}
use Rattle.planning.specs.Planning.{passed, same_plan, passes_from, enabled_count}
use Rattle.planning.specs.Listing.{lines_from, listing_of}
use Rattle.job.specs.Found.{set_of}
use Rattle.job.specs.Search.{push_all, explore, reached, any_of, numbers_of, targets, silent_moves, told_moves, after_config, splits, starts_below, faithful, arrives, apart}
use Rattle.lines.specs.Line.{decimal, field, fields, digits_of, field_of, fields_of, line_of}
use Rattle.lines.specs.Lines.{lines_of}
use Rattle.jobfile.specs.File.{Answer, accepted, turned, finals_of, some_entry, read_rest, read_job}
use Rattle.jobfile.specs.FileTrials.{lines_in}
use Rattle.jobfile.specs.ListingLines.{shadows_bytes, listing_bytes}
use Rattle.buffer.specs.Buffer.{work_size, cleared}
use Rattle.admission.specs.Admission.{work_after}
use Rattle.admission.proofs.AdmissionLaws.{long_enough, admitted_read}
use Rattle.listoutcome.specs.ListCall.{listing_size, listed_of, listing_after, bytes_for}
use Rattle.listtrials.specs.ListTrials.{CallTrial, ListedSo, ListsSo, AllListed, done, ◌and◌, call_trials}

-- the bytes that are written for an answer
abbrev bytes_written : Answer → List ℕ
bytes_written (accepted j) = bytes_for j
bytes_written (turned k) = []

-- from the start of the listing buffer
written_after : (a : Answer) (listing : List ℕ) → listing_after a listing ≡ sets listing 0 (bytes_written a)
written_after (accepted j) listing = refl
written_after (turned k) listing = refl

-- a call is answered as its file
lists_so
    : {t : CallTrial} → listed_of (read_job t.file) ≡ t.listed → bytes_written (read_job t.file) ≡ lines_in t.text
    → ((work : List ℕ) → work_after (read_job t.file) work ≡ cleared work)
    → ListsSo t
lists_so {t} listed written left work listing w l =
    let room = long_enough (length work) work_size (length listing) listing_size w l in
    let read = admitted_read t.file _ room in
    subst (λ (a : Answer). ListedSo t a work listing) (sym read) (record {
      answer = listed;
      written = written_after (read_job t.file) listing ∙ ap (sets listing 0) written;
      left = left work;
    })

-- all calls, in the order of the table
pub call_trials_pass : AllListed call_trials
unfolding call_trials all_below sum_below has cell set_of passed same_plan passes_from enabled_count lines_from listing_of push_all explore reached any_of numbers_of targets silent_moves told_moves after_config splits starts_below faithful arrives apart decimal field fields digits_of field_of fields_of line_of lines_of finals_of some_entry read_rest read_job shadows_bytes listing_bytes
call_trials_pass =
    lists_so refl refl (λ work. refl)
    and lists_so refl refl (λ work. refl)
    and lists_so refl refl (λ work. refl)
    and lists_so refl refl (λ work. refl)
    and lists_so refl refl (λ work. refl)
    and lists_so refl refl (λ work. refl)
    and lists_so refl refl (λ work. refl)
    and lists_so refl refl (λ work. refl)
    and lists_so refl refl (λ work. refl)
    and lists_so refl refl (λ work. refl)
    and lists_so refl refl (λ work. refl)
    and lists_so refl refl (λ work. refl)
    and lists_so refl refl (λ work. refl)
    and lists_so refl refl (λ work. refl)
    and lists_so refl refl (λ work. refl)
    and lists_so refl refl (λ work. refl)
    and lists_so refl refl (λ work. refl)
    and lists_so refl refl (λ work. refl)
    and lists_so refl refl (λ work. refl)
    and lists_so refl refl (λ work. refl)
    and lists_so refl refl (λ work. refl)
    and lists_so refl refl (λ work. refl)
    and lists_so refl refl (λ work. refl)
    and done
