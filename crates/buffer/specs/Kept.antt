-- What stores leave of a work buffer: only some of its parts are touched.
-- Inner contracts: what functions ask of and leave to each other. No promise is stated in them; a reader need not believe them.
-- Assumes nothing.
use Rattle.std.specs.Prelude.{◌≡◌, ◌⊎◌, List, ℕ, ◌≤◌, ◌<◌, length, get_or}

-- byte k lies outside the bytes from i up to j
abbrev pub Outside : ℕ → ℕ → ℕ → Type 0
Outside i j k = (k < i) ⊎ (j ≤ k)

-- the bytes of these places are as they were, and so is the length
pub record Kept (Place : ℕ → Type 0) (l m : List ℕ) : Type 0 where
  pub long : length m ≡ length l
  pub outside : (k : ℕ) → Place k → get_or m k 0 ≡ get_or l k 0

-- the bytes from i up to j alone may differ
abbrev pub SameOutside : List ℕ → List ℕ → ℕ → ℕ → Type 0
SameOutside l m i j = Kept (Outside i j) l m

-- the bytes from i up to j are zero, and the others as they were
pub record Zeroed (l m : List ℕ) (i j : ℕ) : Type 0 where
  pub kept : SameOutside l m i j
  pub zeros : (k : ℕ) → i ≤ k → k < j → get_or m k 0 ≡ 0
