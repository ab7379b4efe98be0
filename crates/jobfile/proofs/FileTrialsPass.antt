-- The table of files is read as it should be, and PAIR is written as its file: the definitions are computed, row by row.
-- Assumes nothing.
use mathlib.Core.Path.{◌≡◌, refl, ap, ◌∙◌}
use mathlib.Core.Logic.{◌≢◌}
use mathlib.Core.List.{List}
use Prim.Native.Nat.{ℕ}
use native.Mathlib.Omega.{arith}
use lib.ListN.{get_or}
use Rattle.laws.specs.Bounded.{all_below}
use Rattle.laws.specs.Bits.{has}
use Rattle.planning.specs.Trials.{pair}
use Rattle.lines.specs.Line.{decimal, field, fields, digits_of, field_of, fields_of, line_of}
use Rattle.lines.specs.Lines.{lines_of}
use Rattle.jobfile.specs.File.{accepted, finals_of, some_entry, read_rest, read_job, write_job}
use Rattle.jobfile.specs.FileTrials.{AllRead, done, ◌and◌, pair_file, pair_with_zeros, file_trials}

-- all files, in the order of the table
pub file_trials_pass : AllRead file_trials
unfolding file_trials all_below has digits_of field_of fields_of line_of lines_of finals_of some_entry read_rest read_job
file_trials_pass =
    refl and refl and refl and refl and refl and refl
    and refl
    and refl and refl and refl
    and refl and refl and refl
    and refl and refl and refl and refl and refl and refl and refl
    and refl and refl and refl and refl and refl
    and refl and refl and refl and refl and refl and refl and refl and refl and refl and refl and refl
    and refl and refl and refl and refl and refl and refl and refl
    and refl and refl and refl and refl and refl and refl and refl and refl and refl and refl and refl and refl
    and refl and refl and refl and refl and refl
    and refl and refl and refl
    and refl and refl
    and refl and refl and done

-- PAIR's file is written from its job
pub pair_written : write_job pair ≡ pair_file
unfolding pair_file has decimal field fields write_job
pair_written = refl

-- PAIR's file with zeros is accepted
pub pair_with_zeros_read : read_job pair_with_zeros ≡ accepted pair
unfolding pair_with_zeros has digits_of field_of fields_of line_of lines_of finals_of some_entry read_rest read_job all_below
pair_with_zeros_read = refl

-- and is another file: its second byte is a zero
pub pair_with_zeros_other : pair_with_zeros ≢ write_job pair
unfolding pair_file pair_with_zeros
pair_with_zeros_other e = let z : ◌≡◌ {A = ℕ} 48 32 = ap (λ (l : List ℕ). get_or l 1 0) (e ∙ pair_written) in omega arith
