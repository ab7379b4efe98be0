-- The table of fields is read as it should be: the definitions are computed, row by row.
-- Assumes nothing.
use mathlib.Core.Path.{refl}
use Rattle.lines.specs.Line.{digits_of, field_of}
use Rattle.lines.specs.FieldTrials.{bytes_in, AllFields, done, ◌and◌, field_trials}

-- all fields, in the order of the table
pub field_trials_pass : AllFields field_trials
unfolding field_trials bytes_in digits_of field_of
field_trials_pass =
    refl and refl and refl and refl and refl and refl and refl and refl
    and refl and refl and refl
    and refl and refl and refl and refl and refl and refl and refl and refl
    and refl and refl and refl and refl and refl and refl
    and done
