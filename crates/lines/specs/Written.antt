-- Fields and lines as they stand in bytes: which columns hold a number, which bytes begin with lines of a kind, and the first line that is
-- turned back. Only the statements at the end speak of reading.
-- Assumes nothing.
use Rattle.std.specs.Prelude.{◌≡◌, ◌≢◌, ◌↔◌, true, false, List, [], ◌∷◌, ◌++◌, ℕ, suc, ◌+◌, ◌*◌, ◌<◌, length, take, drop, replicate, Some}
use Rattle.lines.specs.Line.{decimal, field, line, at, field_of, found, line_length, line_of}
use Rattle.lines.specs.Lines.{LineKind}

-- numbers of at most six digits; past the last one `at` is 0
abbrev pub Fits : List ℕ → Type 0
Fits ns = (i : ℕ) → at ns i < 1000000

-- six columns hold the number n: spaces, then zeros, then its digits
pub record Holds (l : List ℕ) (n : ℕ) : Type 0 where
  pub columns : length l ≡ 6
  pub small : n < 1000000
  pub spaces : ℕ
  pub zeros : ℕ
  pub spelled : l ≡ replicate spaces 32 ++ (replicate zeros 48 ++ decimal 6 n [])

-- the columns of field i, in bytes that begin with a line
abbrev pub columns_of : ℕ → List ℕ → List ℕ
columns_of i bytes = take 6 (drop (i * 6 + 1) bytes)

-- the bytes begin with a line of k fields with these numbers: "its letter, its fields" and "its end byte"
pub record LineAt (letter k : ℕ) (bytes ns : List ℕ) : Type 0 where
  pub count : length ns ≡ k
  pub first : take 1 bytes ≡ letter ∷ []
  pub fields : (i : ℕ) → i < k → Holds (columns_of i bytes) (at ns i)
  pub last : take 1 (drop (k * 6 + 1) bytes) ≡ 10 ∷ []

-- the bytes begin with lines of a kind with these numbers, and the rest follows them
abbrev pub Stand : LineKind → List ℕ → List (List ℕ) → List ℕ → Type 0
Stand k bytes [] rest = bytes ≡ rest
Stand k bytes (ns ∷ ls) rest = LineAt k.letter k.count bytes ns × Stand k (drop (line_length k.count) bytes) ls rest

-- good lines in turn, from place i on, after a line with the numbers `before`
pub data GoodLines (k : LineKind) : ℕ → List ℕ → List (List ℕ) → Type 0 where
  good_none : {i : ℕ} {before : List ℕ} → GoodLines k i before []
  Good-more
      : {i : ℕ} {before ns : List ℕ} {ls : List (List ℕ)} → length ns ≡ k.count → Fits ns → k.good i before ns ≡ true
      → GoodLines k (suc i) ns ls → GoodLines k i before (ns ∷ ls)

-- the bytes begin with c good lines, and the rest follows them
pub record LinesAt (k : LineKind) (c i : ℕ) (before bytes : List ℕ) (ls : List (List ℕ)) (rest : List ℕ) : Type 0 where
  pub count : length ls ≡ c
  pub good : GoodLines k i before ls
  pub stand : Stand k bytes ls rest

-- why the line due at the start of the bytes is turned back
pub data BadLine (k : LineKind) (i : ℕ) (before bytes : List ℕ) : ℕ → Type 0 where
  -- 3: "the file ends where a line is due"
  ended : bytes ≡ [] → BadLine k i before bytes 3
  -- 4: "the line due has not its letter, its fields or its end byte"
  malformed : bytes ≢ [] → ((ns : List ℕ) → LineAt k.letter k.count bytes ns → ⊥) → BadLine k i before bytes 4
  -- 5 to 8, by the kind
  outside
      : {ns : List ℕ} → LineAt k.letter k.count bytes ns → k.good i before ns ≡ false → BadLine k i before bytes k.refusal

-- the last of some lines, or the one before them
unfoldable pub last_of : List ℕ → List (List ℕ) → List ℕ
last_of before [] = before
last_of before (ns ∷ ls) = last_of ns ls

-- of c lines due, the first that is turned back: those passed before it are good
pub record FirstBad (k : LineKind) (c i : ℕ) (before bytes : List ℕ) (r : ℕ) : Type 0 where
  pub passed : List (List ℕ)
  pub due : List ℕ
  pub few : length passed < c
  pub good : GoodLines k i before passed
  pub stand : Stand k bytes passed due
  pub bad : BadLine k (i + length passed) (last_of before passed) due r

-- ---- without zeros

-- no zeros before the digits: no zero stands right after the spaces with another column after it
abbrev pub NoZeros : List ℕ → Type 0
NoZeros l = (m b : ℕ) (bs : List ℕ) → l ≡ replicate m 32 ++ (48 ∷ b ∷ bs) → ⊥

-- ---- what reading says of them

-- the statement: columns hold a number if and only if they are six and are read as it; the field written of a number has no zeros before its
-- digits, and of all columns that hold the number it is the only one without zeros
pub record FieldSays : Type 0 where
  pub holds : (l : List ℕ) (n : ℕ) → ((length l ≡ 6) × (field_of l ≡ Some n)) ↔ Holds l n
  pub written : (n : ℕ) → n < 1000000 → Holds (field n) n × NoZeros (field n)
  pub only : (l : List ℕ) (n : ℕ) → Holds l n → NoZeros l → l ≡ field n

-- the statement: a line is found if and only if it stands there; it stands where it is written, and of all lines with its numbers the
-- written one is the only one whose fields have no zeros
pub record LineSays : Type 0 where
  pub found_there : (letter k : ℕ) (bytes ns : List ℕ) → (line_of letter k bytes ≡ found ns) ↔ LineAt letter k bytes ns
  pub written : (letter : ℕ) (ns rest : List ℕ) → Fits ns → LineAt letter (length ns) (line letter ns ++ rest) ns
  pub only
      : (letter k : ℕ) (bytes ns : List ℕ) → LineAt letter k bytes ns → ((i : ℕ) → i < k → NoZeros (columns_of i bytes))
      → bytes ≡ line letter ns ++ drop (line_length k) bytes
