-- Fields with what they hold (document 02, request 5).
-- That they are read so, `AllFields field_trials`, is a theorem of `proofs/`.
-- Assumes nothing.
use Rattle.std.specs.Prelude.{◌≡◌, List, [], ◌∷◌, ℕ, Option, Some, None}
use Prim.Native.Char.{code}
use Prim.Native.String.{String, [] as no_text, ◌∷◌ as ◌then◌}
use Rattle.lines.specs.Line.{field_of}

-- the bytes of a text in ASCII
unfoldable pub bytes_in : String → List ℕ
bytes_in no_text = []
bytes_in (◌then◌ c cs) = code c ∷ bytes_in cs

-- six columns and what they hold
pub record FieldTrial : Type 0 where
  pub columns : String
  pub says : Option ℕ

-- a row of the table
abbrev pub reads : String → Option ℕ → FieldTrial
reads columns says = record { columns = columns; says = says }

infixr 5 ◌and◌
-- every field of a table is read as it should be
pub data AllFields : List FieldTrial → Type 0 where
  done : AllFields []
  ◌and◌ : {t : FieldTrial} {ts : List FieldTrial} → field_of (bytes_in t.columns) ≡ t.says → AllFields ts → AllFields (t ∷ ts)

-- the table
unfoldable pub field_trials : List FieldTrial
field_trials =
    -- zeros before the digits, in place of spaces or after them; octal digits and others
    reads "    12" (Some 12)
    ∷ reads "  0012" (Some 12)
    ∷ reads "000012" (Some 12)
    ∷ reads " 00019" (Some 19)
    ∷ reads "000100" (Some 100)
    ∷ reads "123456" (Some 123456)
    ∷ reads "099999" (Some 99999)
    ∷ reads "999999" (Some 999999)
    -- zero
    ∷ reads "     0" (Some 0)
    ∷ reads "    00" (Some 0)
    ∷ reads "000000" (Some 0)
    -- no digit; a space after a zero, between zeros, between digits, at the end
    ∷ reads "      " None
    ∷ reads "0   12" None
    ∷ reads " 0   0" None
    ∷ reads "00 012" None
    ∷ reads "   5 3" None
    ∷ reads "0005 3" None
    ∷ reads "00012 " None
    ∷ reads "0     " None
    -- a sign, a point, a letter, a tab
    ∷ reads "   +12" None
    ∷ reads "00-012" None
    ∷ reads "0001.2" None
    ∷ reads "0x0012" None
    ∷ reads "\t   12" None
    ∷ reads "00012\t" None
    ∷ []
