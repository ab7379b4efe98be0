-- Files alike (document 02, request 5): "a file with them", zeros before a number's digits, "must give the same answer as the file written
-- without". Here for lines of any kind; job files are `jobfile`'s `Alike.antt`.
-- Assumes nothing.
use Rattle.std.specs.Prelude.{◌≡◌, List, [], ◌∷◌, ◌++◌, ℕ, ◌+◌, ◌*◌, ◌<◌, length, take, drop, replicate}
use Rattle.lines.specs.Line.{line_length}
use Rattle.lines.specs.Lines.{LineKind, lines_of}
use Rattle.lines.specs.Written.{Holds, columns_of, LinesAt, FirstBad, NoZeros}

-- the columns of a field: equal, or both hold one number
pub data AlikeColumns (l m : List ℕ) : Type 0 where
  equal : l ≡ m → AlikeColumns l m
  one_number : {n : ℕ} → Holds l n → Holds m n → AlikeColumns l m

-- where a line of k fields is due: alike fields, and the same byte in the letter's place and in the end byte's
pub record AlikeLine (k : ℕ) (f g : List ℕ) : Type 0 where
  pub first : take 1 f ≡ take 1 g
  pub fields : (i : ℕ) → i < k → AlikeColumns (columns_of i f) (columns_of i g)
  pub last : take 1 (drop (k * 6 + 1) f) ≡ take 1 (drop (k * 6 + 1) g)

-- where lines of so many fields each are due, one after the other: alike lines, and past them what `Past` says of the bytes
abbrev pub AlikeThen : (List ℕ → List ℕ → Type 0) → List ℕ → List ℕ → List ℕ → Type 0
AlikeThen Past [] f g = Past f g
AlikeThen Past (k ∷ ks) f g = AlikeLine k f g × AlikeThen Past ks (drop (line_length k) f) (drop (line_length k) g)

-- equal bytes
abbrev pub Equal : List ℕ → List ℕ → Type 0
Equal f g = f ≡ g

-- alike lines, and equal bytes past them
abbrev pub AlikeOver : List ℕ → List ℕ → List ℕ → Type 0
AlikeOver = AlikeThen Equal

-- any bytes
abbrev pub Anything : List ℕ → List ℕ → Type 0
Anything f g = Unit

-- alike lines, whatever is past them
abbrev pub AlikeUpTo : List ℕ → List ℕ → List ℕ → Type 0
AlikeUpTo = AlikeThen Anything

-- no zeros before a number's digits in the fields of such lines
abbrev pub NoZerosOver : List ℕ → List ℕ → Type 0
NoZerosOver [] f = Unit
NoZerosOver (k ∷ ks) f =
    ((i n : ℕ) → i < k → Holds (columns_of i f) n → NoZeros (columns_of i f)) × NoZerosOver ks (drop (line_length k) f)

-- ---- files of lines of one kind

-- the lines due in a file of c lines of a kind, by how many fields each has: up to the one that is turned back, or all of them
pub data FileDue (k : LineKind) (c : ℕ) (file : List ℕ) : List ℕ → Type 0 where
  some_due
      : {r : ℕ} → (b : FirstBad k c 0 [] file r) → FileDue k c file (replicate (length b.passed) k.count ++ (k.count ∷ []))
  all_due
      : {ls : List (List ℕ)} {rest : List ℕ} → LinesAt k c 0 [] file ls rest → FileDue k c file (replicate (length ls) k.count ++ [])

-- files alike: one length, alike fields in the lines due, equal bytes everywhere else
pub record AlikeFiles (k : LineKind) (c : ℕ) (f g : List ℕ) : Type 0 where
  pub long : length f ≡ length g
  pub due : List ℕ
  pub lines : FileDue k c f due
  pub over : AlikeOver due f g

-- the statement: columns with one number are alike. Every file is alike itself, and files alike are so either way. Lines of a kind that are
-- alike are read alike: good ones with the same bytes after them; where one is turned back, whatever follows it
pub record LinesSayAlike : Type 0 where
  pub columns : (l m : List ℕ) (n : ℕ) → Holds l n → Holds m n → AlikeColumns l m
  pub itself : (k : LineKind) (c : ℕ) (f : List ℕ) → AlikeFiles k c f f
  pub either_way : (k : LineKind) (c : ℕ) (f g : List ℕ) → AlikeFiles k c f g → AlikeFiles k c g f
  pub good
      : (k : LineKind) (c i : ℕ) (before f g : List ℕ) (ls : List (List ℕ)) (rest : List ℕ) → LinesAt k c i before f ls rest
      → AlikeOver (replicate (length ls) k.count ++ []) f g → lines_of k c i before f ≡ lines_of k c i before g
  pub bad
      : (k : LineKind) (c i : ℕ) (before f g : List ℕ) (r : ℕ) (b : FirstBad k c i before f r)
      → AlikeUpTo (replicate (length b.passed) k.count ++ (k.count ∷ [])) f g → lines_of k c i before f ≡ lines_of k c i before g
